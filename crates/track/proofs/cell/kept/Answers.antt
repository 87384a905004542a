use lib.IntN.{◌-ℤ◌, ◌*ℤ◌}
use mir.Syntax.{w32}
use mir.Val.{SFits}
use Rattle.whole.specs.Laws.Within.{mul_in, fits, back}
use Rattle.track.specs.Laws.Numbers.{minute_in, kept_in}
use Rattle.track.proofs.cell.kept.Goals as goal

run : (s : goal.Start) → SFits w32 (s.args.v *ℤ s.args.t)
run s = fits tt (mul_in s.requires.1 (minute_in s.requires.2))

place : (s : goal.Start) → SFits w32 (s.args.at -ℤ s.args.v *ℤ s.args.t)
place s = fits tt (kept_in s.requires.0 s.requires.1 s.requires.2)

pub overflow_mul-result : goal.overflow_mul-result
overflow_mul-result c = simp (back, c.ranges.v, c.ranges.t) (run c)

pub overflow_sub-result : goal.overflow_sub-result
overflow_sub-result c = simp (back, c.ranges.at, c.ranges.v, c.ranges.t, run c) (place c)

pub returns : goal.returns
returns c = simp (back, c.ranges.at, c.ranges.v, c.ranges.t, run c, place c)
