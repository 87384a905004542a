use Rattle.track.specs.Laws.Refusals.{ok_at_zero}
use Rattle.desk.specs.Laws.Begun.{made_unrefused, made_fresh}
use Rattle.desk.proofs.begin.Goals as goal

pub unwrap-requires : goal.unwrap-requires
unwrap-requires c = ok_at_zero c.fresh.result (made_unrefused c.requires c.fresh.ensures)

pub returns : goal.returns
returns c = made_fresh c.requires c.fresh.ensures
