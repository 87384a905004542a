-- Laws of how many steps a leafing has left: each step leaves fewer, and there are no more than cells that a table may hold.
use Rattle.std.specs.Prelude.{◌≡◌, refl, Bool, true, false, List, [], ◌∷◌, ◌+◌, ◌≤◌, ◌<◌, ℤ, length, ◌<ℤ◌, Some}
use Rattle.std.proofs.Common.{subst, arith}
use Rattle.std.proofs.Math.Decide.{dec_le}
use mathlib.Core.List.Memᴰ
use Rattle.std.specs.Int.Signed.{lt_z, <ℤ-≤ℤ_trans, <ℤ_irrefl}
use Rattle.whole.specs.Lists.{◌∈◌}
use Rattle.whole.specs.Laws.Order.{<ℤ_trans, lt_z_true, lt_z_false}
use Rattle.whole.specs.Inner.Times.{once_if}
use Rattle.track.specs.declared.cell.Cell.{Cell}
use Rattle.table.specs.Header.{greatest_capacity}
use Rattle.table.specs.Laws.Header.{capacity_low}
use Rattle.table.specs.Sound.{Sound, Live, held}
use Rattle.leafing.specs.NextLive.{IsNext, Steps}
use Rattle.leafing.specs.Laws.NextLive.{one_not_none}
use Rattle.leafing.specs.Inner.CellsLeft.{count_above}

-- ---- a step leaves fewer
above_less : (last k x : ℤ) → last <ℤ k → once_if (lt_z k x) ≤ once_if (lt_z last x)
above_less last k x h = by (lt_z k x) (lt_z last x) refl refl
  where
    by : (a b : Bool) → lt_z k x ≡ a → lt_z last x ≡ b → once_if a ≤ once_if b
    by false b e f = omega arith
    by true true e f = omega arith
    by true false e f = absurd (<ℤ_irrefl (<ℤ-≤ℤ_trans (<ℤ_trans h (lt_z_true e)) (lt_z_false f)))

above_new : (last k : ℤ) → last <ℤ k → once_if (lt_z k k) < once_if (lt_z last k)
above_new last k h = by (lt_z k k) (lt_z last k) refl refl
  where
    by : (a b : Bool) → lt_z k k ≡ a → lt_z last k ≡ b → once_if a < once_if b
    by true b e f = absurd (<ℤ_irrefl {a = k} (lt_z_true e))
    by false true e f = omega arith
    by false false e f = absurd (<ℤ_irrefl {a = last} (<ℤ-≤ℤ_trans h (lt_z_false f)))

all_less : (last k : ℤ) (cells : List Cell) → last <ℤ k → count_above k cells ≤ count_above last cells
unfolding count_above
all_less last k [] h = omega arith
all_less last k (c ∷ cells) h = omega (arith, above_less last k c.id h, all_less last k cells h)

one_less : (last : ℤ) {c : Cell} {cells : List Cell} → c ∈ cells → last <ℤ c.id → count_above c.id cells < count_above last cells
unfolding count_above
one_less last {c} (Memᴰ.head {xs} e) h =
    let new = subst (λ (d : Cell). once_if (lt_z c.id d.id) < once_if (lt_z last d.id)) e (above_new last c.id h) in
    omega (arith, new, all_less last c.id xs h)
one_less last {c} (Memᴰ.tail {x} m) h = omega (arith, above_less last c.id x.id h, one_less last m h)

module _ {w : List ℤ} {last : ℤ} where
  pub left_less : {c : Cell} → IsNext (Live w) last c → count_above c.id (held w) < count_above last (held w)
  left_less next = one_less last next.is_one.is_held next.above

-- so does a step over any words: one that gives a cell cannot be over words that are no sound table
pub steps_less : {w : List ℤ} {last : ℤ} {c : Cell} → Steps w last (Some c) → count_above c.id (held w) < count_above last (held w)
steps_less {w} {last} {c} p = by (dec_le (count_above c.id (held w) + 1) (count_above last (held w)))
  where
    by : Dec (count_above c.id (held w) + 1 ≤ count_above last (held w)) → count_above c.id (held w) < count_above last (held w)
    by (yes h) = omega (arith, h)
    by (no h) = absurd (one_not_none (p.unsound (λ s. h (omega (arith, left_less (p.sound s))))))

-- ---- no more are left than are held
once_few : (b : Bool) → once_if b ≤ 1
once_few true = omega arith
once_few false = omega arith

above_few : (last : ℤ) (cells : List Cell) → count_above last cells ≤ length cells
unfolding count_above
above_few last [] = omega arith
above_few last (c ∷ cells) = omega (arith, once_few (lt_z last c.id), above_few last cells)

pub left_few : {w : List ℤ} → Sound w → (last : ℤ) → count_above last (held w) ≤ greatest_capacity
left_few {w} sound last = omega (arith, above_few last (held w), sound.few_cells, capacity_low sound.capacity_in)
