use mathlib.Core.Path.{subst, ◌∙◌}
use mathlib.Core.Bool.{Bool, true, false}
use lib.IntN.{pos}
use mir.Val.{bool_byte}
use Rattle.whole.specs.Tells.{Tells}
use Rattle.whole.specs.Laws.Within.{word_back}
use Rattle.track.specs.Accepted.{KeptInRange, TakenInRange}
use Rattle.track.specs.Meets.{CellMeets}
use Rattle.track.specs.Refusals.{Gives}
use Rattle.track.specs.Answer.{answers_to}
use Rattle.track.specs.Laws.Answer.{tells_yes, tells_no, tells_asked, tells_reported, tells_first}
use Rattle.track.proofs.meeting.answer.Goals as goal

pub cell_meets-requires : goal.cell_meets-requires
cell_meets-requires c = (subst KeptInRange c.in-Ok-Ok.is-0 c.requires.0, subst TakenInRange c.in-Ok-Ok.is-1 c.requires.1)

pub returns-in-Ok-Ok : goal.returns-in-Ok-Ok
returns-in-Ok-Ok c = rw (word_back c.from.result c.from.type_inv, c.from.ensures) (by c.cell_meets.result c.cell_meets.ensures)
  where
    by : (b : Bool) → Tells b (CellMeets c.in-Ok-Ok.c c.in-Ok-Ok.q) → Gives (answers_to c.args.reported c.args.asked) (pos (bool_byte b))
    by true t = tells_yes c.in-Ok-Ok.is-0 c.in-Ok-Ok.is-1 (t.sure tt)
    by false t = tells_no c.in-Ok-Ok.is-0 c.in-Ok-Ok.is-1 t.seen

pub returns-in-Ok-Err : goal.returns-in-Ok-Err
returns-in-Ok-Err c = tells_asked c.in-Ok-Err.is-0 c.in-Ok-Err.is-1 (word_back c.number.result c.number.type_inv ∙ c.number.ensures)

pub returns-in-Err-Ok : goal.returns-in-Err-Ok
returns-in-Err-Ok c =
    tells_reported c.in-Err-Ok.is-0 c.in-Err-Ok.is-1
    (word_back c.number-in-Err-Ok.result c.number-in-Err-Ok.type_inv ∙ c.number-in-Err-Ok.ensures)

pub returns-in-Err-Err : goal.returns-in-Err-Err
returns-in-Err-Err c = tells_first c.in-Err-Err.is-0 c.in-Err-Err.is-1 (word_back c.first.result c.first.type_inv ∙ c.first.ensures)
