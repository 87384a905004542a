use mathlib.Core.Path.{◌∙◌}
use Rattle.whole.specs.Laws.Within.{back, word_back}
use Rattle.track.specs.Refusals.{number_of}
use Rattle.calls.proofs.changes.bradawlet_drop.Goals as goal

pub returns : goal.returns
returns c =
    let f = c.ranges in
    record {
      number = number_of c.drop.result;
      is = word_back c.number_of.result c.number_of.type_inv ∙ c.number_of.ensures;
      steps = simp (back f.id, back f.minute) at c.drop.ensures;
    }
