-- Leafing through a table from its opening until none is left: what comes of it, how many cells there are, and what the lent list holds afterwards.
use Rattle.std.specs.Prelude.{◌≡◌, List, [], ◌∷◌, ◌++◌, ℕ, ◌*◌, ◌<◌, ℤ, pos, length, drop}
use Rattle.track.specs.Refusals.{Reason, ◌when◌, First, number_of}
use Rattle.track.specs.declared.cell.Cell.{Cell}
use Rattle.table.specs.Sound.{Sound}
use Rattle.sheet.specs.Sheet.{cell_numbers}
use Rattle.leafing.specs.Leafed.{Leafed}
use Rattle.leafing.specs.declared.through.Listed.{Listed}

-- how many numbers a cell has, as a sheet's record has them
abbrev pub record_numbers : ℕ
record_numbers = 6

-- the numbers of these cells, one record after the other
unfoldable pub numbers_of : List Cell → List ℤ
numbers_of [] = []
numbers_of (c ∷ cells) = cell_numbers c ++ numbers_of cells

-- why the cells that the leafing gives are not listed: the table is not sound, or they are more than the list has room for
abbrev pub through_reasons : List ℤ → List Cell → List ℤ → List Reason
through_reasons w cells list = 1 when (Sound w → ⊥) ∷ 10 when (length list < record_numbers * length cells) ∷ []

-- leafing through the words w, with this list lent, gives r and leaves list': `cells` are what the steps from the opening give
pub record LeafsThrough (w list : List ℤ) (r : Listed) (list' : List ℤ) : Type 0 where
  pub cells : List Cell
  pub leafed : Leafed w (pos 0) cells
  pub refusal : First (through_reasons w cells list) (number_of r.outcome)
  pub count : r.cells ≡ length cells
  pub listed : number_of r.outcome ≡ 0 → list' ≡ numbers_of cells ++ drop (record_numbers * length cells) list
  pub unchanged : (number_of r.outcome ≡ 0 → ⊥) → list' ≡ list
