use Rattle.std.proofs.Common.{◌≡◌, refl, ◌∙◌, Some, arith}
use Rattle.std.specs.Int.{w32}
use mir.Val.{to_z, of_z}
use Rattle.whole.specs.Laws.Within.{word_back}
use Rattle.table.specs.Header.{clock}
use Rattle.leafing.specs.NextLive.{NextLive}
use Rattle.leafing.specs.Laws.CellsPassed.{next_cell_in}
use Rattle.leafing.specs.Laws.LiveStep.{same_words}
use Rattle.wkt.specs.Inner.LinePut.{LineLong}
use Rattle.charting.specs.Laws.TextPasses.{measuring_none, measuring_next, measuring_few, measuring_all}
use Rattle.charting.proofs.measure.Goals as goal
use Rattle.charting.proofs.measure.Goals.{After-clock-minute, In-Some, After-line_length-total}

clock_is : (c : After-clock-minute) → to_z w32 (of_z w32 c.clock-minute.result) ≡ clock c.args.t.now
clock_is c = word_back c.clock-minute.result c.clock-minute.type_inv ∙ c.clock-minute.ensures

-- the cell that was found, and its line
found : (c : In-Some) → NextLive c.args.t.now c.loop-c.c-iterator.last (Some c.in-Some.c)
found c = rw c.loop-c.invariant.0 at c.in-Some.ensures.steps.next

line : (c : After-line_length-total) → LineLong (clock c.args.t.now) c.in-Some.c c.line_length-total.result
line c = rw (clock_is (goal.at.After-line_length-total c).After-clock-minute) at c.line_length-total.ensures

pub loop-c-init : goal.loop-c-init
loop-c-init c = rw (c.into_iter-c-iterator.ensures.into_iter_gives, c.of-c-items.ensures.same_table, c.of-c-items.ensures.from_start) (refl, measuring_none c.requires)

pub line_length-total-requires : goal.line_length-total-requires
line_length-total-requires c =
    let at = goal.at.line_length-total-requires c in
    let next = found at.In-Some in
    rw (clock_is at.After-clock-minute) (next_cell_in c.requires next, c.requires.clock_in, next.is_one.in_life)

pub overflow_add-total : goal.overflow_add-total
overflow_add-total c =
    let at = goal.at.overflow_add-total c in
    omega (arith, measuring_few c.requires c.loop-c.invariant.1 _ (found at.In-Some) (line at.After-line_length-total))

pub loop-c-preserved : goal.loop-c-preserved
loop-c-preserved c =
    let at = goal.at.loop-c-preserved c in
    let step = c.in-Some.ensures.steps in
    let inv = c.loop-c.invariant in
    (same_words step ∙ inv.0, rw step.goes_on (measuring_next c.requires inv.1 _ (found at.In-Some) (line at.After-line_length-total)))

pub returns : goal.returns
returns c = let inv = c.loop-c.invariant in measuring_all c.requires inv.1 (rw inv.0 at c.in-None.ensures.steps.next)
