-- What follows from a test's answer, and how the answers of several tests go together.
use Rattle.std.specs.Prelude.{◌≡◌, refl, ◌↔◌, ◌⊎◌, Bool, true, false, not, ◌&&◌, ◌||◌, ℕ, ◌≤◌, T, leb, eqb}
use Rattle.std.proofs.Common.{sym, subst, inl, inr, eq-eqb, leb→le, le→leb, eqb→eq}
use Rattle.whole.specs.Tells.{Tells}

-- a test that passed, and one that failed; a condition `!test(..)` gives the `not` forms
pub passed : {b : Bool} {P : Type 0} → Tells b P → b ≡ true → P
passed t e = t.sure (subst T (sym e) tt)

pub failed : {b : Bool} {P : Type 0} → Tells b P → b ≡ false → P → ⊥
failed t e p = subst T e (t.seen p)

pub not_false : {b : Bool} → not b ≡ false → b ≡ true
not_false {b = true} e = refl
not_false {b = false} e = sym e

pub not_true : {b : Bool} → not b ≡ true → b ≡ false
not_true {b = true} e = sym e
not_true {b = false} e = refl

pub passed_not : {b : Bool} {P : Type 0} → Tells b P → not b ≡ false → P
passed_not t e = passed t (not_false e)

pub failed_not : {b : Bool} {P : Type 0} → Tells b P → not b ≡ true → P → ⊥
failed_not t e = failed t (not_true e)

-- no flag is both
pub true_not_false : {A : Type 0} → true ≡ false → A
true_not_false e = absurd (subst T e tt)

-- the answers true and false, and one that stands for another fact
pub tells_true : {P : Type 0} → P → Tells true P
tells_true p = record { sure = λ t. p; seen = λ q. tt }

pub tells_false : {P : Type 0} → (P → ⊥) → Tells false P
tells_false n = record { sure = λ t. absurd t; seen = n }

pub tells_as : {b : Bool} {P Q : Type 0} → Tells b P → (P → Q) → (Q → P) → Tells b Q
tells_as t f g = record { sure = λ h. f (t.sure h); seen = λ q. t.seen (g q) }

-- a test of counts tells its order, and its equation
pub leb_tells : {m n : ℕ} → Tells (leb m n) (m ≤ n)
leb_tells {m} {n} = record { sure = leb→le m n; seen = le→leb m n }

pub eqb_tells : {m n : ℕ} → Tells (eqb m n) (m ≡ n)
eqb_tells {m} {n} = record { sure = eqb→eq m n; seen = λ e. subst T (sym (eq-eqb m n e)) tt }

-- `a & b` tells both facts, `a | b` one of them
pub tells_both : {a b : Bool} {P Q : Type 0} → Tells a P → Tells b Q → Tells (a && b) (P × Q)
tells_both {a = true} s t = record { sure = λ h. (s.sure tt, t.sure h); seen = λ pq. t.seen pq.1 }
tells_both {a = false} s t = record { sure = λ h. absurd h; seen = λ pq. s.seen pq.0 }

pub tells_either : {a b : Bool} {P Q : Type 0} → Tells a P → Tells b Q → Tells (a || b) (P ⊎ Q)
tells_either {a = true} s t = record { sure = λ h. inl (s.sure tt); seen = λ pq. tt }
tells_either {a = false} {b} {P} {Q} s t = record { sure = λ h. inr (t.sure h); seen = seen }
  where
    seen : P ⊎ Q → T b
    seen (inl p) = absurd (s.seen p)
    seen (inr q) = t.seen q

-- a Bool that tells a fact decides it
pub decided : {b : Bool} {P : Type 0} → Tells b P → Dec P
decided {b = true} t = yes (t.sure tt)
decided {b = false} t = no (λ p. t.seen p)

-- a flag that is true exactly when a fact holds
pub tells_iff : {b : Bool} {P : Type 0} → ((b ≡ true) ↔ P) → Tells b P
tells_iff {b = true} e = record { sure = λ t. e.0 refl; seen = λ p. tt }
tells_iff {b = false} e = record { sure = λ t. absurd t; seen = λ p. subst T (sym (e.1 p)) tt }

-- what cannot be denied holds, where it is decided, and so where a test tells it
pub dec_stable : {P : Type 0} → Dec P → ((P → ⊥) → ⊥) → P
dec_stable (yes p) f = p
dec_stable (no n) f = absurd (f n)

pub stable : {b : Bool} {P : Type 0} → Tells b P → ((P → ⊥) → ⊥) → P
stable t = dec_stable (decided t)
