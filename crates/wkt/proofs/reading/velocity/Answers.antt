use Rattle.std.proofs.Common.{◌≡◌, ◌∙◌, ◌-ℤ◌, w32, to_z, of_z}
use Rattle.whole.specs.Within.{Within}
use Rattle.whole.specs.Laws.Within.{sub_in, fits, back, read32, any_in, word_back}
use Rattle.wkt.specs.Inner.TrackFound.{units_of, velocity_of}
use Rattle.whole.specs.Laws.Quotients.{quot_in}
use Rattle.wkt.specs.Laws.TrackFound.{units_in, some_bits}
use Rattle.wkt.proofs.reading.velocity.Goals as goal
use Rattle.wkt.proofs.reading.velocity.Goals.{Start, After-units, After-units-2}

to_is : (c : After-units) → to_z w32 (of_z w32 c.units.result) ≡ units_of c.args.to
to_is c = word_back c.units.result c.units.type_inv ∙ rw (back c.ranges.to) at c.units.ensures

from_is : (c : After-units-2) → to_z w32 (of_z w32 c.units-2.result) ≡ units_of c.args.from
from_is c = word_back c.units-2.result c.units-2.type_inv ∙ rw (back c.ranges.from) at c.units-2.ensures

module _ (s : Start) where
  gone : Within 429496728 (units_of s.args.to -ℤ units_of s.args.from)
  gone = sub_in (units_in (any_in s.ranges.to)) (units_in (any_in s.ranges.from))

  slow : Within 429496728 (velocity_of s.args.from s.args.to s.args.minutes)
  slow = quot_in s.args.minutes s.requires.0 gone

pub overflow_sub-result : goal.overflow_sub-result
overflow_sub-result c = simp (to_is (goal.at.overflow_sub-result c).After-units, from_is (goal.at.overflow_sub-result c).After-units-2) (fits tt (gone (goal.at.overflow_sub-result c).Start))

pub nonzero_div-result : goal.nonzero_div-result
nonzero_div-result c =
    let s = (goal.at.nonzero_div-result c).Start in
    simp (to_is (goal.at.nonzero_div-result c).After-units, from_is (goal.at.nonzero_div-result c).After-units-2, read32 tt (gone s), back s.ranges.minutes) (some_bits s.args.minutes s.requires.0, fits tt (slow s))

pub returns : goal.returns
returns c =
    let s = (goal.at.returns c).Start in
    simp (to_is (goal.at.returns c).After-units, from_is (goal.at.returns c).After-units-2, read32 tt (gone s), back s.ranges.minutes, read32 tt (slow s))
