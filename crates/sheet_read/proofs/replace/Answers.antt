use mathlib.Core.Path.{◌≡◌, ◌∙◌}
use mir.Syntax.{w32}
use mir.Val.{to_z, of_z}
use Rattle.whole.specs.Laws.Within.{back, word_back}
use Rattle.table.specs.Fresh.{MakesFresh, IsFresh}
use Rattle.sheet.specs.Sheet.{clock_of}
use Rattle.sheet_read.specs.Laws.ReadingSteps.{can_make_fresh, fresh_unrefused}
use Rattle.sheet_read.specs.Laws.Filling.{can_fill, read_made}
use Rattle.sheet_read.proofs.replace.Goals as goal
use Rattle.sheet_read.proofs.replace.Goals.{After-fresh, After-clock_of-clock}
use Rattle.track.specs.Refusals.{number_of}
use Rattle.track.specs.Laws.Refusals.{ok_at_zero}

makes : (c : After-fresh) → let a = c.args in MakesFresh a.cells a.t.now (number_of c.fresh.result) c.fresh.new.t
makes c = rw (back c.ranges.cells) at c.fresh.ensures

made : (c : After-fresh) → let a = c.args in IsFresh a.cells a.t.now c.fresh.new.t
made c = can_make_fresh c.requires (makes c)

clock_is : (c : After-clock_of-clock) → to_z w32 (of_z w32 c.clock_of-clock.result) ≡ clock_of c.args.bytes.now
clock_is c = word_back c.clock_of-clock.result c.clock_of-clock.type_inv ∙ c.clock_of-clock.ensures

pub unwrap-requires : goal.unwrap-requires
unwrap-requires c = ok_at_zero c.fresh.result (fresh_unrefused c.requires (makes (goal.at.unwrap-requires c).After-fresh))

pub fill-requires : goal.fill-requires
fill-requires c = rw (clock_is (goal.at.fill-requires c).After-clock_of-clock) (can_fill c.requires (made (goal.at.fill-requires c).After-fresh))

pub returns : goal.returns
returns c =
    let clock = clock_is (goal.at.returns c).After-clock_of-clock in
    read_made c.requires (made (goal.at.returns c).After-fresh) (rw clock at c.fill.ensures) (rw clock at c.set_clock.ensures)
