-- The check finds this too; it stands here so that `too_long_line_cut_short` is refused for its fact.
use Rattle.std.proofs.Common.{arith, length-take-le}
use Rattle.desk_serve.proofs.answer_held.Goals as goal

pub answer_line-requires : goal.answer_line-requires
answer_line-requires c =
    (c.requires.places, omega (arith, length-take-le c.args.held c.args.buffer.now (omega (arith, c.requires.line_room))), c.requires.answer_room)
