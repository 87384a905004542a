use Rattle.std.proofs.Common.{arith, w32}
use mir.Val.{SFits}
use Rattle.whole.specs.Laws.Within.{fits, back, any_in}
use Rattle.wkt.specs.Inner.TrackFound.{units_of}
use Rattle.wkt.specs.Laws.TrackFound.{units_in}
use Rattle.wkt.proofs.reading.units.Goals as goal
use Rattle.wkt.proofs.reading.units.Goals.{Start}

whole : (s : Start) → SFits w32 (units_of s.args.metres)
whole s = fits tt (units_in (any_in s.ranges.metres))

pub nonzero_div-result : goal.nonzero_div-result
nonzero_div-result c = simp (back c.ranges.metres) (omega arith, whole (goal.at.nonzero_div-result c).Start)

pub returns : goal.returns
returns c = simp (back c.ranges.metres, back (whole (goal.at.returns c).Start))
