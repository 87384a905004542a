use Rattle.query.specs.Laws.Answering.{can_write, answers_too_many, answers_listed}
use Rattle.query.proofs.listing.listed.Goals as goal

pub returns-then-list-m : goal.returns-then-list-m
returns-then-list-m c = answers_too_many c.gather-found.ensures _ c.if-list-m.true

pub put_ids-requires : goal.put_ids-requires
put_ids-requires c = can_write c.gather-found.ensures _ c.requires c.if-list-m.false

pub returns : goal.returns
returns c = answers_listed c.gather-found.ensures _ c.if-list-m.false c.put_ids.ensures
