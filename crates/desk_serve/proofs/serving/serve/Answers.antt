use Rattle.desk_serve.specs.Laws.Serving.{so_far_none, so_far_next}
use Rattle.desk_serve.proofs.serving.serve.Goals as goal

pub loop-i-init : goal.loop-i-init
loop-i-init c =
    so_far_none c.args.t.now c.args.buffer.now c.args.held c.args.piece.now c.args.out.now c.requires.held_in

pub loop-i-preserved : goal.loop-i-preserved
loop-i-preserved c =
    so_far_next c.loop-i.invariant c.loop-i-test.true c.take_byte-place.ensures
