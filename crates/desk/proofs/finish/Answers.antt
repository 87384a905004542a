use Rattle.std.proofs.Common.{take}
use Rattle.desk.proofs.finish.Goals as goal

pub returns : goal.returns
returns c = (take c.end-written.result c.end-written.new.out, c.end-written.ensures.answers)
