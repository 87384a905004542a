use lib.Signed.{le_z_yes}
use Rattle.whole.specs.Laws.Within.{back}
use Rattle.track.proofs.range.is_velocity.Goals as goal

pub within-requires : goal.within-requires
within-requires c = (le_z_yes tt, le_z_yes tt)

pub returns : goal.returns
returns c = simp (back c.ranges.v) at c.within.ensures
