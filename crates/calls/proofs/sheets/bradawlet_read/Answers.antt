use mathlib.Core.Path.{◌∙◌}
use Rattle.whole.specs.Laws.Within.{back, word_back}
use Rattle.calls.proofs.sheets.bradawlet_read.Goals as goal

pub returns : goal.returns
returns c = record {
  outcome = c.read_sheet.result;
  reads = simp (back c.ranges.cells) at c.read_sheet.ensures;
  number_is = word_back c.number_of.result c.number_of.type_inv ∙ c.number_of.ensures;
}
