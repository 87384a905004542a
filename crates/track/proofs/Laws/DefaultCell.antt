-- The derived default of a cell is the cell of zeros.
use Rattle.std.specs.Prelude.{◌≡◌}
use Rattle.track.specs.Life.{no_cell}
use Rattle.track.specs.declared.cell.Cell.{Cell}
use Rattle.track.specs.contracts.cell.CellDefault.TheImpl as CellDefault

pub default_cell : {c : Cell} → (CellDefault.is_default-value).it c → c ≡ no_cell
default_cell e i = record { id = e.0 i; x = e.1.0 i; vx = e.1.1.0 i; y = e.1.1.1.0 i; vy = e.1.1.1.1.0 i; expiry = record { at = e.1.1.1.1.1 i } }
