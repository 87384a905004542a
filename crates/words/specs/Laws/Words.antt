-- Laws of words as counts, and of rows.
use Rattle.std.specs.Prelude.{◌≡◌, refl, List, [], ◌∷◌, ℕ, ◌+◌, ◌^◌, ◌<◌, ◌≤◌, leb, ltb, ℤ, pos, negsuc, nat_abs, ◌≤ℤ◌, ◌<ℤ◌, length, drop}
use Rattle.std.proofs.Common.{◌∙◌, arith, le→leb, ltb→lt, lt→ltb, add-zero, add_assoc}
use Rattle.std.proofs.Math.Seq.{get_or-drop}
use Rattle.std.specs.Int.Signed.{le_z_yes}
use Rattle.whole.specs.Tells.{Tells}
use Rattle.whole.specs.Laws.Order.{le_z_tells, lt_z_tells}
use Rattle.std.specs.Int.{Width}
use mir.Val.{SFits, hbits}
use Rattle.std.proofs.Math.ListN.{get_or-eq_default}
use Rattle.words.specs.Parts.{part}
use Rattle.words.specs.Laws.Parts.{part_four, get_or_part, part_whole}
use Rattle.words.specs.Words.{word_at, nat_of, row_at, rows_at}

-- ---- a word as a count
pub nat_of-pos : (n : ℕ) → nat_of (pos n) ≡ n
unfolding nat_of
nat_of-pos n = refl

pub pos-nat_of : (z : ℤ) → pos 0 ≤ℤ z → pos (nat_of z) ≡ z
unfolding nat_of
pos-nat_of (pos n) h = refl
pos-nat_of (negsuc n) h = absurd h.le

-- a count is low exactly when the word that is taken for it is
pub nat_of_tells : (z : ℤ) (n : ℕ) → Tells (leb (nat_of z) n) (z ≤ℤ pos n)
unfolding nat_of
nat_of_tells (pos m) n = le_z_tells {a = pos m} {b = pos n}
nat_of_tells (negsuc m) n = record { sure = λ t. le_z_yes tt; seen = λ h. le→leb 0 n (omega arith) }

pub nat_of_below_tells : (z : ℤ) (n : ℕ) → 0 < n → Tells (ltb (nat_of z) n) (z <ℤ pos n)
unfolding nat_of
nat_of_below_tells (pos m) n some = lt_z_tells {a = pos m} {b = pos n}
nat_of_below_tells (negsuc m) n some = record { sure = λ t. record { lt = tt }; seen = λ h. lt→ltb 0 n some }

pub nat_of_negative : (z : ℤ) → z <ℤ pos 0 → nat_of z ≡ 0
unfolding nat_of
nat_of_negative (pos n) h = omega (arith, ltb→lt n 0 h.lt)
nat_of_negative (negsuc n) h = refl

pub nat_of-abs : (z : ℤ) → pos 0 ≤ℤ z → nat_abs z ≡ nat_of z
unfolding nat_of
nat_of-abs (pos n) h = refl
nat_of-abs (negsuc n) h = absurd h.le

pub nat_of_fits : (w : Width) (z : ℤ) → SFits w z → nat_of z < 2 ^ hbits w
unfolding nat_of
nat_of_fits w (pos n) f = f.sfits
nat_of_fits w (negsuc n) f = omega (arith, f.sfits)

-- ---- a row
pub row_at_past : (w : List ℤ) (at : ℕ) → length w ≤ at → row_at w at ≡ pos 0 ∷ pos 0 ∷ pos 0 ∷ pos 0 ∷ []
unfolding row_at
row_at_past w at h = rw (past at h, past (at + 1) (omega arith), past (at + 2) (omega arith), past (at + 3) (omega arith))
  where
    past : (i : ℕ) → length w ≤ i → word_at w i ≡ pos 0
    past i = get_or-eq_default w (pos 0)

-- the rows of two tables are the same where their words are
pub row_at_same : (w v : List ℤ) (at b : ℕ) → ((j : ℕ) → j < 4 → word_at w (at + j) ≡ word_at v (b + j)) → row_at w at ≡ row_at v b
unfolding row_at
row_at_same w v at b same =
    let first : word_at w at ≡ word_at v b = simp add-zero at (same 0 (omega arith)) in
    rw (first, same 1 (omega arith), same 2 (omega arith), same 3 (omega arith))

-- inside the table a row is a part of it
pub row_at_part : (w : List ℤ) (at : ℕ) → at + 4 ≤ length w → row_at w at ≡ part w at 4
unfolding row_at
row_at_part w at fits = part_four w at (pos 0) fits

-- four words are a row
pub row_at_whole : (r : List ℤ) → length r ≡ 4 → row_at r 0 ≡ r
row_at_whole r four = row_at_part r 0 (omega arith) ∙ part_whole r 4 four

-- a row of a part
pub row_at_in_part : (w : List ℤ) (a k at : ℕ) → at + 4 ≤ k → row_at (part w a k) at ≡ row_at w (a + at)
row_at_in_part w a k at h = row_at_same (part w a k) w at (a + at) λ j l. get_or_part w a k (at + j) (pos 0) (omega arith) ∙ rw (add_assoc a at j)

-- a row of what is left of the table from `a` on
pub row_at_rest : (w : List ℤ) (a at : ℕ) → row_at (drop a w) at ≡ row_at w (a + at)
row_at_rest w a at = row_at_same (drop a w) w at (a + at) λ j l. get_or-drop a w (at + j) (pos 0) ∙ rw (add_assoc a at j)

-- ---- two rows
pub rows_at_in_part : (w : List ℤ) (a k at : ℕ) → at + 8 ≤ k → rows_at (part w a k) at ≡ rows_at w (a + at)
rows_at_in_part w a k at h =
    rw (row_at_in_part w a k at (omega arith), row_at_in_part w a k (at + 4) (omega arith), add_assoc a at 4)
