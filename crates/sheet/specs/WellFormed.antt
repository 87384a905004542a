-- When bytes are a well-formed sheet, clause by clause, and which refusal is given where they are not.
use Rattle.std.specs.Prelude.{◌≡◌, List, [], ◌∷◌, map, ℕ, ◌≤◌, ℤ, pos, ◌≤ℤ◌, ◌<ℤ◌, length, Result, Ok, Err}
use Rattle.whole.specs.Lists.{◌∈◌}
use Rattle.whole.specs.Rising.{Rising}
use Rattle.track.specs.Life.{identifier, LivesAt, CellInRange}
use Rattle.track.specs.Numbers.{IsMinute}
use Rattle.track.specs.Refusals.{Reason, ◌when◌, First, number, number_of}
use Rattle.track.specs.declared.cell.Cell.{Cell}
use Rattle.sheet.specs.Sheet.{header_bytes, total_for, count_word, offset_word, clock_of, total_word, record_count, cells_of}
use Rattle.track.specs.declared.refusal.Refusal.{Refusal}

-- a count from 0 to the limit
pub record IsCountTo (limit : ℕ) (z : ℤ) : Type 0 where
  pub from : pos 0 ≤ℤ z
  pub to : z ≤ℤ pos limit

-- what a header must have, or 11 is given
pub record HeaderSound (limit : ℕ) (bytes : List ℕ) : Type 0 where
  pub whole_header : header_bytes ≤ length bytes
  pub count_in : IsCountTo limit (count_word bytes)
  pub offset_is : offset_word bytes ≡ pos header_bytes
  pub clock_in : IsMinute (clock_of bytes)
  pub total_is : total_word bytes ≡ pos (total_for (record_count bytes))
  -- the total is the length given
  pub total_given : total_word bytes ≡ pos (length bytes)

-- cells that may stand on a sheet with this clock: what its records must be, or 12 is given
pub record CellsSound (clock : ℤ) (cells : List Cell) : Type 0 where
  pub in_range : (c : Cell) → c ∈ cells → CellInRange c
  pub in_life : (c : Cell) → c ∈ cells → LivesAt clock c
  pub rising : Rising ◌<ℤ◌ (map identifier cells)

abbrev pub RecordsSound : List ℕ → Type 0
RecordsSound bytes = CellsSound (clock_of bytes) (cells_of bytes)

-- a well-formed sheet of at most `limit` cells
pub record SheetSound (limit : ℕ) (bytes : List ℕ) : Type 0 where
  pub header : HeaderSound limit bytes
  pub records : RecordsSound bytes

abbrev pub sheet_reasons : ℕ → List ℕ → List Reason
sheet_reasons limit bytes =
    11 when (HeaderSound limit bytes → ⊥) ∷
    12 when (RecordsSound bytes → ⊥) ∷
    []

-- what is found of bytes: the first refusal, or a sheet that is well formed
pub record Judges (limit : ℕ) (bytes : List ℕ) (r : Result (Unit {0}) Refusal) : Type 0 where
  pub refusal : First (sheet_reasons limit bytes) (number_of r)
  pub sound : number_of r ≡ 0 → SheetSound limit bytes
