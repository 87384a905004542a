-- Laws of the next live cell: there is one answer.
use Rattle.std.specs.Prelude.{◌≡◌, refl, ◌⊎◌, List, [], ◌∷◌, map, ℤ, Option, Some, None}
use Rattle.std.proofs.Common.{sym, ap, ◌∙◌, subst, inl, inr}
use mathlib.Core.List.Memᴰ
use Rattle.whole.specs.Lists.{◌∈◌, NoRepeat}
use Rattle.whole.specs.Laws.Lists.{no_repeat_head, no_repeat_tail}
use Rattle.whole.specs.Laws.Order.{≤ℤ_antisym, ≡ℤ_stable}
use Rattle.track.specs.Life.{identifier}
use Rattle.track.specs.declared.cell.Cell.{Cell}
use Rattle.table.specs.Sound.{Sound, Live}
use Rattle.leafing.specs.NextLive.{IsNext, NextLive, Steps}

-- ---- a step over a sound table, and one over other words
pub steps_sound : {w : List ℤ} → Sound w → (last : ℤ) (r : Option Cell) → NextLive w last r → Steps w last r
steps_sound s last r n = record { sound = λ t. n; unsound = λ t. absurd (t s) }

pub steps_unsound : {w : List ℤ} {last : ℤ} → (Sound w → ⊥) → Steps w last None
steps_unsound n = record { sound = λ s. absurd (n s); unsound = λ t. refl }

-- ---- a list without repeats by f has one element for each value of f
pub same_by : {A B : Type 0} (f : A → B) {l : List A} → NoRepeat (map f l) → {x y : A} → x ∈ l → y ∈ l → f x ≡ f y → x ≡ y
same_by f {l = []} once m n e = absurd (Memᴰ.not-nil m)
same_by {A} {B} f {l = z ∷ l} once {x} {y} m n e = by (Memᴰ.cases_cons m) (Memᴰ.cases_cons n) (λ p q. same_by f (no_repeat_tail once) p q e)
  where
    twice : (v : A) → v ∈ l → f v ≡ f z → ⊥
    twice v p d = no_repeat_head once (subst (λ (b : B). b ∈ map f l) d (Memᴰ.map f p))

    by : (x ≡ z) ⊎ x ∈ l → (y ≡ z) ⊎ y ∈ l → (x ∈ l → y ∈ l → x ≡ y) → x ≡ y
    by (inl d) (inl b) rest = d ∙ sym b
    by (inl d) (inr q) rest = absurd (twice y q (sym e ∙ ap f d))
    by (inr p) (inl b) rest = absurd (twice x p (e ∙ ap f b))
    by (inr p) (inr q) rest = rest p q

-- a live cell is known by its identifier
pub live_same : {w : List ℤ} → Sound w → {c d : Cell} → Live w c → Live w d → c.id ≡ d.id → c ≡ d
live_same s l m e = same_by identifier s.identifiers_once l.is_held m.is_held e

-- ---- one answer: of a sound table
pub next_same : {w : List ℤ} → Sound w → {last : ℤ} {c d : Cell} → IsNext (Live w) last c → IsNext (Live w) last d → c ≡ d
next_same s {c} {d} n m = live_same s n.is_one m.is_one (≤ℤ_antisym c.id d.id (n.least d m.is_one m.above) (m.least c n.is_one n.above))

-- and of any words. A step that gives a cell was not over words that are no sound table, so soundness cannot be denied;
-- and what cannot be denied of two numbers, that they are equal, holds
same_cell_stable : (c d : Cell) → ((c ≡ d → ⊥) → ⊥) → c ≡ d
same_cell_stable c d f = all (on (λ x. x.id)) (on (λ x. x.x)) (on (λ x. x.vx)) (on (λ x. x.y)) (on (λ x. x.vy)) (on (λ x. x.expiry.at))
  where
    on : (g : Cell → ℤ) → g c ≡ g d
    on g = ≡ℤ_stable (λ n. f (λ e. n (ap g e)))

    all : c.id ≡ d.id → c.x ≡ d.x → c.vx ≡ d.vx → c.y ≡ d.y → c.vy ≡ d.vy → c.expiry.at ≡ d.expiry.at → c ≡ d
    all e0 e1 e2 e3 e4 e5 i = record { id = e0 i; x = e1 i; vx = e2 i; y = e3 i; vy = e4 i; expiry = record { at = e5 i } }

pub one_not_none : {c : Cell} → Some c ≡ None → ⊥
one_not_none {c} e = subst is_one e tt
  where
    is_one : Option Cell → Type 0
    is_one (Some d) = Unit {0}
    is_one None = ⊥

pub steps_fixed : {w : List ℤ} {last : ℤ} (r s : Option Cell) → Steps w last r → Steps w last s → r ≡ s
steps_fixed None None p q = refl
steps_fixed None (Some d) p q = absurd (one_not_none (q.unsound (λ s. p.sound s d (q.sound s).is_one (q.sound s).above)))
steps_fixed (Some c) None p q = absurd (one_not_none (p.unsound (λ s. q.sound s c (p.sound s).is_one (p.sound s).above)))
steps_fixed (Some c) (Some d) p q = ap Some (same_cell_stable c d (λ n. one_not_none (p.unsound (λ s. n (next_same s (p.sound s) (q.sound s))))))
