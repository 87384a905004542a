use mathlib.Core.Path.{◌∙◌}
use Rattle.whole.specs.Laws.Within.{back, word_back}
use Rattle.track.specs.Refusals.{number_of}
use Rattle.calls.proofs.bradawlet_fresh.Goals as goal

pub returns : goal.returns
returns c = record {
  number = number_of c.fresh.result;
  is = word_back c.number_of.result c.number_of.type_inv ∙ c.number_of.ensures;
  makes = simp (back c.ranges.cells) at c.fresh.ensures;
}
