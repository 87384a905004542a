use Rattle.words.specs.Laws.Parts.{lent_back}
use Rattle.words.proofs.put_run.Goals as goal

pub returns : goal.returns
returns g c = rw c.copy_from_slice.ensures.after (lent_back c.args.t.now c.args.at _ _)
