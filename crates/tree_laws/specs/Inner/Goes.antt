-- Which cells a report and a drop clear out.
use Rattle.std.specs.Prelude.{◌≡◌, ◌⊎◌, ℤ}
use Rattle.track.specs.Life.{LivesAt}
use Rattle.track.specs.declared.cell.Cell.{Cell}

-- it does not live at the minute, or it is the cell with this identifier
abbrev pub Goes : ℤ → ℤ → Cell → Type 0
Goes minute id c = (LivesAt minute c → ⊥) ⊎ (c.id ≡ id)
