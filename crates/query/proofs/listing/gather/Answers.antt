use Rattle.query.specs.Laws.Gathering.{can_open_root, gathered_sorted}
use Rattle.query.proofs.listing.gather.Goals as goal

pub open_entries-found-requires : goal.open_entries-found-requires
open_entries-found-requires c = can_open_root c.requires.0 _ _ _ c.height.ensures.0 c.root.ensures.0 c.requires.1

pub returns : goal.returns
returns c = gathered_sorted c.requires.0 (rw (c.height.ensures.0, c.root.ensures.0) at c.open_entries-found.ensures) c.requires.1 c.sort.ensures
