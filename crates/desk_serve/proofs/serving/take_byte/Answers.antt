use native.Mathlib.Omega.{arith}
use Rattle.std.proofs.lemmas.Grind.{common_steps}
use Rattle.desk_lines.specs.Laws.LineHeld.{keeps_byte}
use Rattle.desk_serve.specs.Laws.Serving.{heard_byte, heard_lent, answer_fits}
use Rattle.desk_serve.proofs.serving.take_byte.Goals as goal

pub returns-then-b-ne-LINE_FEED : goal.returns-then-b-ne-LINE_FEED
returns-then-b-ne-LINE_FEED c =
    heard_byte c.if-b-ne-LINE_FEED.true c.requires.2 (omega (arith, c.requires.3)) (keeps_byte c.keep_byte.ensures)

pub overflow_add-result : goal.overflow_add-result
overflow_add-result c = grind (arith, common_steps, answer_fits c.requires.2 c.answer_held-n.ensures)

pub returns : goal.returns
returns c =
    heard_lent c.args.out.now c.args.at.written c.if-b-ne-LINE_FEED.false c.requires.2 (omega (arith, c.requires.3)) c.answer_held-n.ensures
