-- A whole number as a difference of two naturals, and the bridge from ℤ to `omega`:
-- `all3 _ λ _ _ _ _ _ _. simp difs (omega arith)` proves a linear or multiplied-out fact over three numbers.
use Rattle.std.specs.Prelude.{◌≡◌, refl, ◌⊎◌, ◌↔◌, Bool, true, false, not, cond, ℕ, zero, suc, ◌+◌, ◌*◌, ◌-◌, ◌≤◌, ◌<◌, T, ltb, ℤ, pos, negsuc, neg_ℤ, nat_abs, ◌+ℤ◌, ◌*ℤ◌, ◌≤ℤ◌, ◌<ℤ◌}
use Rattle.std.proofs.Common.{ap, inl, inr, ⊎_elim, mul-zero, zero-mul, add-zero, zero-add, arith, ltb→lt, nltb→le, lt→ltb, le→leb, leb→le}
use Rattle.std.proofs.Math.Nat.{le_dest}
use Rattle.std.proofs.Math.IntN.{sub_ℕ}
use Rattle.std.specs.Int.Signed.{le_z, lt_z}

-- ---- the parts of a number: z is up z − dn z
unfoldable pub up : ℤ → ℕ
up (pos n) = n
up (negsuc n) = 0

unfoldable pub dn : ℤ → ℕ
dn (pos n) = 0
dn (negsuc n) = suc n

-- z is p − n
pub record IsDifference (z : ℤ) (p n : ℕ) : Type 0 where
  pub is : up z + n ≡ p + dn z

is_pos : (n : ℕ) → IsDifference (pos n) n 0
unfolding up dn
is_pos n = record { is = omega arith }

is_negsuc : (n : ℕ) → IsDifference (negsuc n) 0 (suc n)
unfolding up dn
is_negsuc n = record { is = omega arith }

is_sub : (a b : ℕ) → IsDifference (sub_ℕ a b) a b
unfolding up dn
is_sub a b = by (ltb a b) (ltb→lt a b) (nltb→le a b)
  where
    by : (c : Bool) → (T c → a < b) → (T (not c) → b ≤ a) → IsDifference (cond c (negsuc (b - suc a)) (pos (a - b))) a b
    by true f g = let h = f tt in record { is = omega arith }
    by false f g = let h = g tt in record { is = omega arith }

is_neg : {z : ℤ} {p n : ℕ} → IsDifference z p n → IsDifference (neg_ℤ z) n p
unfolding up dn
is_neg {z = pos zero} h = record { is = omega (arith, h.is) }
is_neg {z = pos (suc k)} h = record { is = omega (arith, h.is) }
is_neg {z = negsuc k} h = record { is = omega (arith, h.is) }

shift : {z : ℤ} {p n : ℕ} (q m : ℕ) → IsDifference z p n → p + m ≡ q + n → IsDifference z q m
shift q m h e = record { is = omega (arith, h.is) }

is_add : {x y : ℤ} {p n q m : ℕ} → IsDifference x p n → IsDifference y q m → IsDifference (x +ℤ y) (p + q) (n + m)
unfolding up dn
is_add {x = pos a} {y = pos b} h k = record { is = omega (arith, h.is, k.is) }
is_add {x = pos a} {y = negsuc b} h k = shift _ _ (is_sub a (suc b)) (omega (arith, h.is, k.is))
is_add {x = negsuc a} {y = pos b} h k = shift _ _ (is_sub b (suc a)) (omega (arith, h.is, k.is))
is_add {x = negsuc a} {y = negsuc b} h k = record { is = omega (arith, h.is, k.is) }

mul_same : (a b p n q m : ℕ) → a + n ≡ p → b + m ≡ q → a * b + (p * m + n * q) ≡ p * q + n * m
mul_same a b p n q m e f = rw (← e, ← f) (omega arith)

mul_other : (a b p n q m : ℕ) → a + n ≡ p → m ≡ q + b → p * m + n * q ≡ p * q + n * m + a * b
mul_other a b p n q m e f = rw (← e, f) (omega arith)

is_mul : {x y : ℤ} {p n q m : ℕ} → IsDifference x p n → IsDifference y q m → IsDifference (x *ℤ y) (p * q + n * m) (p * m + n * q)
unfolding up dn
is_mul {x = pos a} {y = pos b} {p} {n} {q} {m} h k =
    record { is = omega (arith, mul_same a b p n q m (omega (arith, h.is)) (omega (arith, k.is))) }
is_mul {x = pos a} {y = negsuc b} {p} {n} {q} {m} h k =
    shift _ _ (is_neg (is_pos (a * suc b))) (omega (arith, mul_other a (suc b) p n q m (omega (arith, h.is)) (omega (arith, k.is))))
is_mul {x = negsuc a} {y = pos b} {p} {n} {q} {m} h k =
    shift _ _ (is_neg (is_pos (suc a * b))) (omega (arith, mul_other b (suc a) q m p n (omega (arith, k.is)) (omega (arith, h.is))))
is_mul {x = negsuc a} {y = negsuc b} {p} {n} {q} {m} h k =
    record { is = omega (arith, mul_same (suc a) (suc b) n p m q (omega (arith, h.is)) (omega (arith, k.is))) }

-- ---- equality and order, by the parts
parts_eq : (x y : ℤ) → up x + dn y ≡ up y + dn x → x ≡ y
unfolding up dn
parts_eq (pos a) (pos b) e = ap pos (omega arith)
parts_eq (pos a) (negsuc b) e = absurd (omega arith)
parts_eq (negsuc a) (pos b) e = absurd (omega arith)
parts_eq (negsuc a) (negsuc b) e = ap negsuc (omega arith)

parts_le : (x y : ℤ) → up x + dn y ≤ up y + dn x → T (le_z x y)
unfolding up dn
parts_le (pos a) (pos b) e = le→leb a b (omega arith)
parts_le (pos a) (negsuc b) e = absurd (omega arith)
parts_le (negsuc a) (pos b) e = tt
parts_le (negsuc a) (negsuc b) e = le→leb b a (omega arith)

le_parts : (x y : ℤ) → T (le_z x y) → up x + dn y ≤ up y + dn x
unfolding up dn
le_parts (pos a) (pos b) t = omega (arith, leb→le a b t)
le_parts (pos a) (negsuc b) t = absurd t
le_parts (negsuc a) (pos b) t = omega arith
le_parts (negsuc a) (negsuc b) t = omega (arith, leb→le b a t)

parts_lt : (x y : ℤ) → up x + dn y < up y + dn x → T (lt_z x y)
unfolding up dn
parts_lt (pos a) (pos b) e = lt→ltb a b (omega arith)
parts_lt (pos a) (negsuc b) e = absurd (omega arith)
parts_lt (negsuc a) (pos b) e = tt
parts_lt (negsuc a) (negsuc b) e = lt→ltb b a (omega arith)

lt_parts : (x y : ℤ) → T (lt_z x y) → up x + dn y < up y + dn x
unfolding up dn
lt_parts (pos a) (pos b) t = omega (arith, ltb→lt a b t)
lt_parts (pos a) (negsuc b) t = absurd t
lt_parts (negsuc a) (pos b) t = omega arith
lt_parts (negsuc a) (negsuc b) t = omega (arith, ltb→lt b a t)

-- ---- `dif p n` is p − n, and stays shut: the set `difs` brings an expression of differences to one of them,
-- and an order or an equation of two of them to one in ℕ
pub dif : ℕ → ℕ → ℤ
dif = sub_ℕ

is_dif : (a b : ℕ) → IsDifference (dif a b) a b
unfolding dif
is_dif = is_sub

same : {x y : ℤ} {p n : ℕ} → IsDifference x p n → IsDifference y p n → x ≡ y
same {x} {y} h k = parts_eq x y (omega (arith, h.is, k.is))

pub dif_pos : (n : ℕ) → pos n ≡ dif n 0
dif_pos n = same (is_pos n) (is_dif n 0)

pub dif_negsuc : (n : ℕ) → negsuc n ≡ dif 0 (suc n)
dif_negsuc n = same (is_negsuc n) (is_dif 0 (suc n))

pub dif_add : (a b c d : ℕ) → dif a b +ℤ dif c d ≡ dif (a + c) (b + d)
dif_add a b c d = same (is_add (is_dif a b) (is_dif c d)) (is_dif (a + c) (b + d))

pub dif_neg : (a b : ℕ) → neg_ℤ (dif a b) ≡ dif b a
dif_neg a b = same (is_neg (is_dif a b)) (is_dif b a)

pub dif_mul : (a b c d : ℕ) → dif a b *ℤ dif c d ≡ dif (a * c + b * d) (a * d + b * c)
dif_mul a b c d = same (is_mul (is_dif a b) (is_dif c d)) (is_dif (a * c + b * d) (a * d + b * c))

pub dif_le : (a b c d : ℕ) → (dif a b ≤ℤ dif c d) ↔ (a + d ≤ c + b)
dif_le a b c d = (
  λ h. omega (arith, (is_dif a b).is, (is_dif c d).is, le_parts (dif a b) (dif c d) h.le),
  λ h. record { le = parts_le (dif a b) (dif c d) (omega (arith, (is_dif a b).is, (is_dif c d).is)) },
)

pub dif_lt : (a b c d : ℕ) → (dif a b <ℤ dif c d) ↔ (a + d < c + b)
dif_lt a b c d = (
  λ h. omega (arith, (is_dif a b).is, (is_dif c d).is, lt_parts (dif a b) (dif c d) h.lt),
  λ h. record { lt = parts_lt (dif a b) (dif c d) (omega (arith, (is_dif a b).is, (is_dif c d).is)) },
)

pub dif_eq : (a b c d : ℕ) → (dif a b ≡ dif c d) ↔ (a + d ≡ c + b)
dif_eq a b c d = (
  λ h. omega (arith, (is_dif a b).is, (is_dif c d).is, ap up h, ap dn h),
  λ h. parts_eq (dif a b) (dif c d) (omega (arith, (is_dif a b).is, (is_dif c d).is)),
)

abs_parts : (z : ℤ) → nat_abs z ≡ up z + dn z
unfolding up dn
abs_parts (pos n) = omega arith
abs_parts (negsuc n) = omega arith

one_part : (z : ℤ) → (up z ≡ 0) ⊎ (dn z ≡ 0)
unfolding up dn
one_part (pos n) = inr refl
one_part (negsuc n) = inl refl

pub dif_abs : (a b : ℕ) → nat_abs (dif a b) ≡ (a - b) + (b - a)
dif_abs a b =
    ⊎_elim
    (λ e. omega (arith, abs_parts (dif a b), (is_dif a b).is))
    (λ e. omega (arith, abs_parts (dif a b), (is_dif a b).is))
    (one_part (dif a b))

-- `◌+ℤ◌` and `◌*ℤ◌` compute where their first argument is a constructor, so `simp` sees no `pos n` there: these fit what is left
pub neg-pos : (n : ℕ) → neg_ℤ (pos n) ≡ dif 0 n
neg-pos n = same (is_neg (is_pos n)) (is_dif 0 n)

pub pos_add : (n a b : ℕ) → pos n +ℤ dif a b ≡ dif (n + a) b
pos_add n a b = same (is_add (is_pos n) (is_dif a b)) (shift _ _ (is_dif (n + a) b) (omega arith))

pub pos_mul : (n a b : ℕ) → pos n *ℤ dif a b ≡ dif (n * a) (n * b)
pos_mul n a b = same (is_mul (is_pos n) (is_dif a b)) (shift _ _ (is_dif (n * a) (n * b)) (omega arith))

pub negsuc_add : (n a b : ℕ) → negsuc n +ℤ dif a b ≡ dif a (suc n + b)
negsuc_add n a b = same (is_add (is_negsuc n) (is_dif a b)) (shift _ _ (is_dif a (suc n + b)) (omega arith))

pub negsuc_mul : (n a b : ℕ) → negsuc n *ℤ dif a b ≡ dif (suc n * b) (suc n * a)
negsuc_mul n a b = same (is_mul (is_negsuc n) (is_dif a b)) (shift _ _ (is_dif (suc n * b) (suc n * a)) (omega arith))

pub ruleset difs = (neg-pos, pos_add, pos_mul, negsuc_add, negsuc_mul, dif_pos, dif_negsuc, dif_add, dif_neg, dif_mul, dif_le, dif_lt, dif_eq, dif_abs, mul-zero, zero-mul, add-zero, zero-add)

-- the product of two facts a ≤ b and c ≤ d, for `omega`'s list: (b − a) (d − c) is not negative
pub cross : {a b c d : ℕ} → a ≤ b → c ≤ d → a * d + b * c ≤ a * c + b * d
cross h k = let e = le_dest h in let f = le_dest k in rw (← e.1, ← f.1) (omega arith)

-- ---- what holds of every difference holds of every number
pub each : (Q : ℤ → Type 0) → ((p n : ℕ) → Q (dif p n)) → (z : ℤ) → Q z
each Q f (pos n) = rw (dif_pos n) (f n 0)
each Q f (negsuc n) = rw (dif_negsuc n) (f 0 (suc n))

-- the same for a number that is not negative
pub nat : (Q : ℤ → Type 0) → ((n : ℕ) → Q (pos n)) → (z : ℤ) → pos 0 ≤ℤ z → Q z
nat Q f (pos n) h = f n
nat Q f (negsuc n) h = absurd h.le

-- several numbers at once: `all3 _ λ a a' b b' c c'. ..`
pub all2 : (Q : ℤ → ℤ → Type 0) → ((a a' b b' : ℕ) → Q (dif a a') (dif b b')) → (u v : ℤ) → Q u v
all2 Q f u v = each (λ z. Q z v) (λ a a'. each (Q (dif a a')) (f a a') v) u

pub all3 : (Q : ℤ → ℤ → ℤ → Type 0) → ((a a' b b' c c' : ℕ) → Q (dif a a') (dif b b') (dif c c')) → (u v w : ℤ) → Q u v w
all3 Q f u v w = each (λ z. Q z v w) (λ a a'. all2 (Q (dif a a')) (f a a') v w) u

pub all4 : (Q : ℤ → ℤ → ℤ → ℤ → Type 0) → ((a a' b b' c c' d d' : ℕ) → Q (dif a a') (dif b b') (dif c c') (dif d d')) → (u v w x : ℤ) → Q u v w x
all4 Q f u v w x = each (λ z. Q z v w x) (λ a a'. all3 (Q (dif a a')) (f a a') v w x) u

pub all5 : (Q : ℤ → ℤ → ℤ → ℤ → ℤ → Type 0) → ((a a' b b' c c' d d' e e' : ℕ) → Q (dif a a') (dif b b') (dif c c') (dif d d') (dif e e')) → (u v w x y : ℤ) → Q u v w x y
all5 Q f u v w x y = each (λ z. Q z v w x y) (λ a a'. all4 (Q (dif a a')) (f a a') v w x y) u
