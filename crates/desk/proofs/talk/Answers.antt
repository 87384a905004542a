use Rattle.std.proofs.Common.{◌+◌, arith}
use Rattle.std.proofs.lemmas.Bool.{false≢true}
use Rattle.std.proofs.lemmas.Grind.{common_steps}
use Rattle.desk.specs.Laws.Talking.{heard_none, heard_more}
use Rattle.desk.proofs.talk.Goals as goal

pub loop-from-init : goal.loop-from-init
loop-from-init c = (omega arith, c.requires.held_in, heard_none c.args.t.now c.args.line.now c.args.held.now)

pub returns-then-not-say : goal.returns-then-not-say
returns-then-not-say c = record {
  far = c.loop-from.from + c.serve-done.result.taken;
  far_in = grind (arith, common_steps);
  hears = heard_more c.args.piece.now c.loop-from.from c.loop-from.invariant.2 c.serve-done.ensures;
  whole = λ e. absurd (false≢true e);
  held_in = c.serve-done.ensures.held_in;
}

pub loop-from-preserved : goal.loop-from-preserved
loop-from-preserved c = (
  grind (arith, common_steps),
  c.serve-done.ensures.held_in,
  heard_more c.args.piece.now c.loop-from.from c.loop-from.invariant.2 c.serve-done.ensures,
)
