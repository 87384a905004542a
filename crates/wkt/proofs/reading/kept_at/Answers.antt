use Rattle.std.proofs.Common.{◌≡◌, ◌∙◌, ◌*ℤ◌, w32, to_z, of_z}
use Rattle.whole.specs.Within.{Within}
use Rattle.whole.specs.Laws.Within.{sub_in, mul_in, fits, back, read32, any_in, word_back}
use Rattle.track.specs.Laws.Numbers.{minute_in}
use Rattle.wkt.specs.Inner.TrackFound.{units_of}
use Rattle.wkt.specs.Laws.TrackFound.{units_in}
use Rattle.wkt.proofs.reading.kept_at.Goals as goal
use Rattle.wkt.proofs.reading.kept_at.Goals.{Start, After-units}

gone : (s : Start) → Within 737280 (s.args.v *ℤ s.args.minute)
gone s = mul_in s.requires.0 (minute_in s.requires.1)

there : (c : After-units) → to_z w32 (of_z w32 c.units.result) ≡ units_of c.args.metres
there c = word_back c.units.result c.units.type_inv ∙ rw (back c.ranges.metres) at c.units.ensures

pub overflow_mul-result : goal.overflow_mul-result
overflow_mul-result c = let s = (goal.at.overflow_mul-result c).Start in simp (back s.ranges.v, back s.ranges.minute) (fits tt (gone s))

pub overflow_sub-result : goal.overflow_sub-result
overflow_sub-result c =
    let s = (goal.at.overflow_sub-result c).Start in
    simp (there (goal.at.overflow_sub-result c).After-units, back s.ranges.v, back s.ranges.minute, read32 tt (gone s)) (fits tt (sub_in (units_in (any_in s.ranges.metres)) (gone s)))

pub returns : goal.returns
returns c =
    let s = (goal.at.returns c).Start in
    simp (there (goal.at.returns c).After-units, back s.ranges.v, back s.ranges.minute, read32 tt (gone s), read32 tt (sub_in (units_in (any_in s.ranges.metres)) (gone s)))
