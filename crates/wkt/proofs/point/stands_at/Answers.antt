use Rattle.std.proofs.Common.{◌≡◌, ◌∙◌, w32, to_z, of_z}
use Rattle.whole.specs.Laws.Within.{read32, back, word_back}
use Rattle.wkt.specs.Metres.{metres}
use Rattle.wkt.proofs.point.stands_at.Goals as goal
use Rattle.wkt.proofs.point.stands_at.Goals.{After-metres, After-metres-2}

-- each axis, read back
x_is : (c : After-metres) → to_z w32 (of_z w32 c.metres.result) ≡ metres c.args.c.x c.args.c.vx c.args.minute
x_is c =
    word_back c.metres.result c.metres.type_inv ∙ rw (read32 tt c.requires.0.x_in, read32 tt c.requires.0.vx_in, back c.ranges.minute) at c.metres.ensures

y_is : (c : After-metres-2) → to_z w32 (of_z w32 c.metres-2.result) ≡ metres c.args.c.y c.args.c.vy c.args.minute
y_is c =
    word_back c.metres-2.result c.metres-2.type_inv ∙ rw (read32 tt c.requires.0.y_in, read32 tt c.requires.0.vy_in, back c.ranges.minute) at c.metres-2.ensures

pub returns : goal.returns
returns c = rw (x_is (goal.at.returns c).After-metres, y_is (goal.at.returns c).After-metres-2, back c.ranges.minute)
