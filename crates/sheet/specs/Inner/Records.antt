-- The records one by one: those that are left, and what each is tried for.
use Rattle.std.specs.Prelude.{List, ℕ, ◌-◌, ℤ, ◌<ℤ◌}
use Rattle.track.specs.Life.{LivesAt, CellInRange}
use Rattle.track.specs.declared.cell.Cell.{Cell}
use Rattle.sheet.specs.Sheet.{record_count, cells_from}

-- the cells of the records from record k on
abbrev pub left_from : List ℕ → ℕ → List Cell
left_from bytes k = cells_from bytes k (record_count bytes - k)

-- a cell may follow one whose identifier is `last`; 0 where none goes before
pub record Follows (clock last : ℤ) (c : Cell) : Type 0 where
  pub in_range : CellInRange c
  pub in_life : LivesAt clock c
  pub after : last <ℤ c.id
