use Rattle.std.proofs.Common.{◌+ℤ◌, ◌*ℤ◌}
use Rattle.whole.specs.Within.{Within}
use Rattle.whole.specs.Laws.Within.{add_in, mul_in, fits, back, read32}
use Rattle.track.specs.Laws.Numbers.{minute_in}
use Rattle.wkt.specs.Laws.Metres.{metres_in}
use Rattle.wkt.proofs.point.metres.Goals as goal
use Rattle.wkt.proofs.point.metres.Goals.{Start}

module _ (s : Start) where
  gone : Within 737280 (s.args.v *ℤ s.args.minute)
  gone = mul_in s.requires.1 (minute_in s.requires.2)

  there : Within 1574560 (s.args.kept +ℤ s.args.v *ℤ s.args.minute)
  there = add_in s.requires.0 gone

pub overflow_mul-result : goal.overflow_mul-result
overflow_mul-result c = simp (back, c.ranges.v, c.ranges.minute) (fits tt (gone (goal.at.overflow_mul-result c).Start))

pub overflow_add-result : goal.overflow_add-result
overflow_add-result c = simp (back, c.ranges.kept, c.ranges.v, c.ranges.minute, read32 tt (gone (goal.at.overflow_add-result c).Start)) (fits tt (there (goal.at.overflow_add-result c).Start))

pub overflow_mul-result-2 : goal.overflow_mul-result-2
overflow_mul-result-2 c = simp (back, c.ranges.kept, c.ranges.v, c.ranges.minute, read32 tt (gone (goal.at.overflow_mul-result-2 c).Start), read32 tt (there (goal.at.overflow_mul-result-2 c).Start)) (fits tt (metres_in c.requires.0 c.requires.1 c.requires.2))

pub returns : goal.returns
returns c = simp (back, c.ranges.kept, c.ranges.v, c.ranges.minute, read32 tt (gone (goal.at.returns c).Start), read32 tt (there (goal.at.returns c).Start), read32 tt (metres_in c.requires.0 c.requires.1 c.requires.2))
