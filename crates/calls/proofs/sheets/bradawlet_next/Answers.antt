use mathlib.Core.Path.{◌≡◌, refl, ap, ◌∙◌}
use lib.IntN.{pos}
use mir.Val.{bool_byte}
use Rattle.std.specs.Prelude.{Option, Some, None, is_some}
use Rattle.std.specs.Option.{UnwrapsOrElse}
use Rattle.whole.specs.Laws.Within.{back, word_back}
use Rattle.track.specs.declared.cell.Cell.{Cell}
use Rattle.track.specs.contracts.cell.CellDefault.TheImpl as CellDefault
use Rattle.track.proofs.Laws.DefaultCell.{default_cell}
use Rattle.sheet.specs.Sheet.{cell_numbers}
use Rattle.calls.specs.SheetCalls.{is_given, next_cell}
use Rattle.calls.proofs.sheets.bradawlet_next.Goals as goal

given : (o : Option Cell) → pos (bool_byte (is_some o)) ≡ is_given o
given (Some c) = refl
given None = refl

pub returns : goal.returns
returns c =
    record {
      next = c.step_from-next.result;
      steps = simp (back c.ranges.last) at c.step_from-next.ensures;
      number_is = word_back c.from.result c.from.type_inv ∙ (rw c.is_some.ensures at c.from.ensures) ∙ given c.step_from-next.result;
      record_is = c.cell_numbers.ensures ∙ ap cell_numbers (by c.step_from-next.result c.unwrap_or_default.result c.unwrap_or_default.ensures);
    }
  where
    by : (o : Option Cell) (d : Cell) → UnwrapsOrElse o (CellDefault.is_default-value).it d → d ≡ next_cell o
    by (Some x) d e = e
    by None d e = default_cell e
