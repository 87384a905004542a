-- The calls that hand out what a table holds, as their callers have them: the answer's number, and what is written through references.
use Rattle.std.specs.Prelude.{◌≡◌, List, ℕ, ◌^◌, ◌<◌, ℤ, pos, Result, Option, Some, None}
use Rattle.track.specs.Life.{no_cell}
use Rattle.track.specs.declared.cell.Cell.{Cell}
use Rattle.sheet.specs.Sheet.{cell_numbers}
use Rattle.leafing.specs.NextLive.{Steps}
use Rattle.sheet_read.specs.Reads.{ReadsSheet}
use Rattle.sheet_write.specs.Written.{written_total, WritesSheet}
use Rattle.track.specs.declared.refusal.Refusal.{Refusal}
use Rattle.track.specs.Refusals.{number_of}

-- a total that fits a word
pub record TotalFits (written : Result ℕ Refusal) : Type 0 where
  pub small : written_total written < 2 ^ 31

-- an answer in numbers: r is its own, total is its total
pub record WrittenInNumbers (written : Result ℕ Refusal) (r total : ℤ) : Type 0 where
  pub number_is : r ≡ pos (number_of written)
  pub total_is : total ≡ pos (written_total written)

-- r and total are the answer to writing the sheet of the table w, which leaves bytes'
pub record WriteGives (w : List ℤ) (bytes : List ℕ) (r total : ℤ) (bytes' : List ℕ) : Type 0 where
  pub written : Result ℕ Refusal
  pub writes : WritesSheet w bytes written bytes'
  pub in_numbers : WrittenInNumbers written r total

-- r is the number of reading the bytes into the words w as a table for so many cells, which leaves v
pub record ReadGives (cells : ℤ) (w : List ℤ) (bytes : List ℕ) (r : ℤ) (v : List ℤ) : Type 0 where
  pub outcome : Result (Unit {0}) Refusal
  pub reads : ReadsSheet cells w bytes outcome v
  pub number_is : r ≡ pos (number_of outcome)

-- a step in numbers: 1 and the cell, or 0 and zeros
abbrev pub is_given : Option Cell → ℤ
is_given (Some c) = pos 1
is_given None = pos 0

abbrev pub next_cell : Option Cell → Cell
next_cell (Some c) = c
next_cell None = no_cell

-- r and the numbers are a step of the leafing over the table w from `last` on
pub record NextGives (w : List ℤ) (last r : ℤ) (numbers : List ℤ) : Type 0 where
  pub next : Option Cell
  pub steps : Steps w last next
  pub number_is : r ≡ is_given next
  pub record_is : numbers ≡ cell_numbers (next_cell next)
