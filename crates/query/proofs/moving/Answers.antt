use mathlib.Core.Path.{◌≡◌, ◌∙◌}
use mir.Syntax.{w32}
use mir.Val.{to_z, of_z}
use Rattle.whole.specs.Laws.Within.{word_back}
use Rattle.track.specs.Query.{Asks, EndsByStart}
use Rattle.table.specs.Header.{clock}
use Rattle.query.specs.Laws.Answering.{judged_of, queried}
use Rattle.query.proofs.moving.Goals as goal
use Rattle.query.proofs.moving.Goals.{After-clock, After-moving-asked}

clock_is : (c : After-clock) → to_z w32 (of_z w32 c.clock.result) ≡ clock c.args.t.now
clock_is c = word_back c.clock.result c.clock.type_inv ∙ c.clock.ensures

judged : (c : After-moving-asked) → let a = c.args in Asks (clock a.t.now) (EndsByStart a.q) a.q c.moving-asked.result
judged c = simp (clock_is c.before) at c.moving-asked.ensures

pub answered-requires : goal.answered-requires
answered-requires c = judged_of (judged (goal.at.answered-requires c).After-moving-asked)

pub returns : goal.returns
returns c = queried (judged (goal.at.returns c).After-moving-asked) c.answered.ensures
