-- Writing something of a table, and its sheet: when it is refused, and what is left in the lent bytes. The table is only read.
use Rattle.std.specs.Prelude.{◌≡◌, List, [], ◌∷◌, ◌++◌, ℕ, ◌<◌, ℤ, length, drop, Result, Ok, Err}
use Rattle.track.specs.Numbers.{most_cells}
use Rattle.track.specs.Refusals.{Reason, ◌when◌, First, number_of}
use Rattle.track.specs.declared.cell.Cell.{Cell}
use Rattle.table.specs.Header.{clock}
use Rattle.table.specs.Sound.{Sound}
use Rattle.sheet.specs.Sheet.{total_for, sheet_of, clock_of, cells_of}
use Rattle.sheet.specs.WellFormed.{SheetSound}
use Rattle.leafing.specs.Leafed.{LiveCells}
use Rattle.track.specs.declared.refusal.Refusal.{Refusal}

abbrev pub written_total : Result ℕ Refusal → ℕ
written_total (Ok n) = n
written_total (Err why) = 0

-- ---- what every writing of a table answers and leaves, whatever is written
-- why nothing is written of the table w, in the order in which it is tried: `Short` says that the bytes are too few
abbrev pub table_reasons : List ℤ → Type 0 → List Reason
table_reasons w Short =
    1 when (Sound w → ⊥) ∷
    13 when Short ∷
    []

-- the answer and the bytes that the call leaves: `Done` says what total and bytes are where it is accepted
pub record WritesTable (w : List ℤ) (Short : Type 0) (Done : ℕ → List ℕ → Type 0) (bytes : List ℕ) (r : Result ℕ Refusal) (bytes' : List ℕ) : Type 0 where
  pub refusal : First (table_reasons w Short) (number_of r)
  pub accepted : number_of r ≡ 0 → Done (written_total r) bytes'
  pub refused : (number_of r ≡ 0 → ⊥) → bytes' ≡ bytes

-- ---- a sheet
-- the table's sheet is longer than n bytes
pub record LongerThan (n : ℕ) (w : List ℤ) : Type 0 where
  pub cells : List Cell
  pub live : LiveCells w cells
  pub longer : n < total_for (length cells)

abbrev pub write_reasons : List ℤ → List ℕ → List Reason
write_reasons w bytes = table_reasons w (LongerThan (length bytes) w)

-- the sheet of the live cells stands in the first bytes, as many as the total, and the others are as they were
pub record Writes (w : List ℤ) (bytes : List ℕ) (total : ℕ) (bytes' : List ℕ) : Type 0 where
  pub cells : List Cell
  pub live : LiveCells w cells
  pub total_is : total ≡ total_for (length cells)
  pub written : bytes' ≡ sheet_of (clock w) cells ++ drop total bytes

-- what bytes say where they are a sheet of this table: a well-formed sheet of its clock and its live cells
pub record SheetOfTable (w : List ℤ) (sheet : List ℕ) : Type 0 where
  pub well_formed : SheetSound most_cells sheet
  pub clock_is : clock_of sheet ≡ clock w
  pub live : LiveCells w (cells_of sheet)

abbrev pub WritesSheet : List ℤ → List ℕ → Result ℕ Refusal → List ℕ → Type 0
WritesSheet w bytes = WritesTable w (LongerThan (length bytes) w) (Writes w bytes) bytes
