use lib.Signed.{le_z_yes}
use Rattle.whole.specs.Laws.Within.{back}
use Rattle.track.proofs.range.is_kept.Goals as goal

pub within-requires : goal.within-requires
within-requires c = (le_z_yes tt, le_z_yes tt)

pub returns : goal.returns
returns c = simp (back c.ranges.z) at c.within.ensures
