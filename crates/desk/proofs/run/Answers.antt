use Rattle.std.specs.Prelude.{[]}
use Rattle.desk.specs.Laws.Talking.{heard_none}
use Rattle.desk.specs.Laws.Running.{ran_out, turned_on, turned_last}
use Rattle.desk.proofs.run.Goals as goal

pub loop-init : goal.loop-init
loop-init c = (c.requires.0.held_in, ([], heard_none c.args.t.now c.args.line.now c.args.held.now))

pub returns-then-not-turn : goal.returns-then-not-turn
returns-then-not-turn c =
    let read = c.read_piece-got in
    turned_last c.loop.invariant.1 read.result (rw read.auto.piece read.ensures) c.turn.ensures

pub loop-preserved : goal.loop-preserved
loop-preserved c =
    let read = c.read_piece-got in
    (c.turn.ensures.held_in, turned_on c.loop.invariant.1 read.result (rw read.auto.piece read.ensures) c.turn.ensures c.if-not-turn.false)

pub returns : goal.returns
returns c = ran_out c.loop.invariant.1
