use mathlib.Core.Path.{◌≡◌, ap, ◌∙◌}
use Rattle.std.specs.Prelude.{Result, Ok, Err}
use Rattle.std.specs.Result.{ResultUnwrapsOrElse}
use Rattle.whole.specs.Laws.Within.{back, word_back}
use Rattle.track.specs.declared.cell.Cell.{Cell}
use Rattle.track.specs.declared.refusal.Refusal.{Refusal}
use Rattle.track.specs.contracts.cell.CellDefault.TheImpl as CellDefault
use Rattle.track.proofs.Laws.DefaultCell.{default_cell}
use Rattle.sheet.specs.Sheet.{cell_numbers}
use Rattle.calls.specs.TrackCalls.{track_cell}
use Rattle.calls.proofs.tracks.bradawlet_read_track.Goals as goal

pub returns : goal.returns
returns c =
    record {
      read = c.read_track-read.result;
      reads = simp (back c.ranges.id) at c.read_track-read.ensures;
      number_is = word_back c.number_of.result c.number_of.type_inv ∙ c.number_of.ensures;
      record_is = c.cell_numbers.ensures ∙ ap cell_numbers (by c.read_track-read.result c.unwrap_or_default.result c.unwrap_or_default.ensures);
    }
  where
    by : (r : Result Cell Refusal) (d : Cell) → ResultUnwrapsOrElse r (CellDefault.is_default-value).it d → d ≡ track_cell r
    by (Ok x) d e = e
    by (Err why) d e = default_cell e
