-- The check finds these too; they stand here so that `failed_read_taken_for_the_end` and `bytes_behind_those_read` are refused for their facts.
use Rattle.std.proofs.Common.{◌≡◌, Some, rules}
use Rattle.desk.specs.Laws.Turning.{turned_ended, turned_came}
use Rattle.desk.proofs.turn.Goals as goal

pub returns-then-came-eq0 : goal.returns-then-came-eq0
returns-then-came-eq0 c =
    let answered : c.args.got ≡ Some c.in-Some.n = search rules in
    rw answered (turned_ended {far = c.min-came.result} (search rules) c.if-came-eq0.true c.requires.held_in c.finish.ensures)

pub returns : goal.returns
returns c =
    let answered : c.args.got ≡ Some c.in-Some.n = search rules in
    rw answered (turned_came {far = c.min-came.result} (search rules) c.if-came-eq0.false c.talk.ensures)
