-- The check finds this too; it stands here so that `another_byte_kept` and `byte_forgotten` are refused for their facts.
use Rattle.std.proofs.Common.{refl, arith}
use Rattle.desk_lines.proofs.feed.keep_byte.Goals as goal

pub returns-then-held-buffer : goal.returns-then-held-buffer
returns-then-held-buffer c = record { room = λ lt. (refl, refl); full = λ ge. absurd (omega (arith, c.if-held-buffer.true)) }
