-- The records tried one by one: each cell may follow the one before it exactly when all are sound, and what holds after each turn of the loop.
use Rattle.std.specs.Prelude.{◌≡◌, refl, ◌↔◌, Bool, true, false, ◌&&◌, List, [], ◌∷◌, map, ℕ, suc, ◌+◌, ◌-◌, ◌≤◌, ◌<◌, ℤ, pos, ◌≤ℤ◌, ◌<ℤ◌}
use Rattle.std.proofs.Common.{⊎_elim, add-one, arith}
use mathlib.Core.List.Memᴰ
use Rattle.whole.specs.Laws.Difference.{each, difs}
use Rattle.whole.specs.Lists.{◌∈◌}
use Rattle.whole.specs.Rising.{Rising, rising_one, rising_more}
use Rattle.whole.specs.Laws.Rising.{rising_tail}
use Rattle.whole.specs.Tells.{Tells}
use Rattle.whole.specs.Laws.Tells.{tells_true, tells_false, tells_as, tells_both}
use Rattle.track.specs.Life.{identifier, LivesAt, CellInRange}
use Rattle.track.specs.declared.cell.Cell.{Cell}
use Rattle.sheet.specs.Sheet.{clock_of, record_count, cell_at, cells_from, cells_of}
use Rattle.sheet.specs.WellFormed.{CellsSound, RecordsSound}
use Rattle.sheet.specs.Inner.Records.{left_from, Follows}

-- ---- the records that are left: all at first, one less with each, none at last
pub all_left : (bytes : List ℕ) → left_from bytes 0 ≡ cells_of bytes
all_left bytes = let all : record_count bytes - 0 ≡ record_count bytes = omega arith in rw all

pub next_left : (bytes : List ℕ) (k : ℕ) → k < record_count bytes → left_from bytes k ≡ cell_at bytes k ∷ left_from bytes (k + 1)
unfolding cells_from
next_left bytes k h =
    let e : record_count bytes - k ≡ suc (record_count bytes - (k + 1)) = omega arith in
    rw (e, add-one)

pub none_are_left : (bytes : List ℕ) (k : ℕ) → record_count bytes ≤ k → left_from bytes k ≡ []
unfolding cells_from
none_are_left bytes k h = let e : record_count bytes - k ≡ 0 = omega arith in rw e

-- ---- one record after the other
-- the tests of one record together
pub follows_tells : {clock last : ℤ} {c : Cell} {range life rises : Bool} → Tells range (CellInRange c) → Tells life (LivesAt clock c) → Tells rises (last <ℤ c.id)
    → Tells (range && life && rises) (Follows clock last c)
follows_tells range life rises =
    tells_as (tells_both (tells_both range life) rises)
    (λ h. record { in_range = h.0.0; in_life = h.0.1; after = h.1 })
    (λ f. ((f.in_range, f.in_life), f.after))

-- each cell may follow the one before it
pub data Following (clock : ℤ) : ℤ → List Cell → Type 0 where
  none_left : {last : ℤ} → Following clock last []
  one_more : {last : ℤ} {c : Cell} {cells : List Cell} → Follows clock last c → Following clock c.id cells → Following clock last (c ∷ cells)

above_zero : (cells : List Cell) → ((c : Cell) → c ∈ cells → CellInRange c) → Rising ◌<ℤ◌ (map identifier cells) → Rising ◌<ℤ◌ (pos 0 ∷ map identifier cells)
above_zero [] range up = rising_one
above_zero (c ∷ cells) range up = rising_more (above c.id (range c (Memᴰ.head refl)).identifier.from) up
  where
    above : (z : ℤ) → pos 1 ≤ℤ z → pos 0 <ℤ z
    above = each _ λ _ _. simp difs (omega arith)

module _ {clock : ℤ} where
  first_follows : {last : ℤ} {c : Cell} {cells : List Cell} → Following clock last (c ∷ cells) → Follows clock last c
  first_follows (one_more f rest) = f

  rest_follow : {last : ℤ} {c : Cell} {cells : List Cell} → Following clock last (c ∷ cells) → Following clock c.id cells
  rest_follow (one_more f rest) = rest

  ids_rise : {last : ℤ} {cells : List Cell} → Following clock last cells → Rising ◌<ℤ◌ (last ∷ map identifier cells)
  ids_rise none_left = rising_one
  ids_rise (one_more f rest) = rising_more f.after (ids_rise rest)

  each_in_range : {last : ℤ} {cells : List Cell} → Following clock last cells → (d : Cell) → d ∈ cells → CellInRange d
  each_in_range none_left d m = absurd (Memᴰ.not-nil m)
  each_in_range (one_more {c} f rest) d m = ⊎_elim (λ (e : d ≡ c). rw e f.in_range) (λ n. each_in_range rest d n) (Memᴰ.cases_cons m)

  each_in_life : {last : ℤ} {cells : List Cell} → Following clock last cells → (d : Cell) → d ∈ cells → LivesAt clock d
  each_in_life none_left d m = absurd (Memᴰ.not-nil m)
  each_in_life (one_more {c} f rest) d m = ⊎_elim (λ (e : d ≡ c). rw e f.in_life) (λ n. each_in_life rest d n) (Memᴰ.cases_cons m)

  cells_follow : (last : ℤ) (cells : List Cell) → ((c : Cell) → c ∈ cells → CellInRange c) → ((c : Cell) → c ∈ cells → LivesAt clock c)
      → Rising ◌<ℤ◌ (last ∷ map identifier cells) → Following clock last cells
  cells_follow last [] range life up = none_left
  cells_follow last (c ∷ cells) range life (rising_more r up) =
      one_more (record { in_range = range c (Memᴰ.head refl); in_life = life c (Memᴰ.head refl); after = r })
      (cells_follow c.id cells (λ d m. range d (Memᴰ.tail m)) (λ d m. life d (Memᴰ.tail m)) up)

  sound_follow : (cells : List Cell) → CellsSound clock cells → Following clock (pos 0) cells
  sound_follow cells s = cells_follow (pos 0) cells s.in_range s.in_life (above_zero cells s.in_range s.rising)

  follow_sound : (cells : List Cell) → Following clock (pos 0) cells → CellsSound clock cells
  follow_sound cells f = record { in_range = each_in_range f; in_life = each_in_life f; rising = rising_tail (ids_rise f) }

-- ---- the loop: the first k records are passed, and all are sound exactly when those that are left may follow
pub record RecordsPassed (bytes : List ℕ) (last : ℤ) (k : ℕ) : Type 0 where
  pub upto : k ≤ record_count bytes
  pub told : RecordsSound bytes ↔ Following (clock_of bytes) last (left_from bytes k)

module _ {bytes : List ℕ} where
  pub none_passed : RecordsPassed bytes (pos 0) 0
  none_passed = record { upto = omega arith; told = rw (all_left bytes) (sound_follow (cells_of bytes), follow_sound (cells_of bytes)) }

  module _ {last : ℤ} {k : ℕ} (so_far : RecordsPassed bytes last k) where
    pub one_passed : k < record_count bytes → Follows (clock_of bytes) last (cell_at bytes k) → RecordsPassed bytes (cell_at bytes k).id (k + 1)
    one_passed h f = record {
      upto = omega arith;
      told = (λ s. rest_follow (rw (next_left bytes k h) at (so_far.told.0 s)), λ rest. so_far.told.1 (rw (next_left bytes k h) (one_more f rest)));
    }

    pub one_failed : k < record_count bytes → (Follows (clock_of bytes) last (cell_at bytes k) → ⊥) → Tells false (RecordsSound bytes)
    one_failed h n = tells_false (λ s. n (first_follows (rw (next_left bytes k h) at (so_far.told.0 s))))

    pub all_passed : record_count bytes ≤ k → Tells true (RecordsSound bytes)
    all_passed h = tells_true (so_far.told.1 (rw (none_are_left bytes k h) none_left))
