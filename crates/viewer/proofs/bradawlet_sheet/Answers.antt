use mathlib.Core.Path.{◌∙◌}
use Rattle.whole.specs.Laws.Within.{word_back}
use Rattle.viewer.specs.Laws.SheetAnswer.{tells_refusal, tells_well_formed}
use Rattle.viewer.proofs.bradawlet_sheet.Goals as goal

pub returns-in-Ok : goal.returns-in-Ok
returns-in-Ok c = tells_well_formed c.judge.ensures c.in-Ok.is

pub returns-in-Err : goal.returns-in-Err
returns-in-Err c =
    tells_refusal c.judge.ensures c.in-Err.is
    (word_back c.number.result c.number.type_inv ∙ c.number.ensures)
