use Rattle.std.proofs.Common.{◌≡◌, refl, ◌∙◌, Some, arith}
use Rattle.std.specs.Int.{w32}
use mir.Val.{to_z, of_z}
use Rattle.whole.specs.Laws.Within.{word_back}
use Rattle.table.specs.Header.{clock}
use Rattle.leafing.specs.NextLive.{NextLive}
use Rattle.leafing.specs.Laws.CellsPassed.{next_cell_in}
use Rattle.leafing.specs.Laws.LiveStep.{same_words}
use Rattle.charting.specs.Laws.TextPasses.{lines_none, line_fits, lines_next, lines_end, lines_all}
use Rattle.charting.proofs.put_lines.Goals as goal
use Rattle.charting.proofs.put_lines.Goals.{After-clock-minute, In-Some, In-None}

clock_is : (c : After-clock-minute) → to_z w32 (of_z w32 c.clock-minute.result) ≡ clock c.args.t.now
clock_is c = word_back c.clock-minute.result c.clock-minute.type_inv ∙ c.clock-minute.ensures

-- the cell that was found
found : (c : In-Some) → NextLive c.args.t.now c.loop-c.c-iterator.last (Some c.in-Some.c)
found c = rw c.loop-c.invariant.0 at c.in-Some.ensures.steps.next

pub loop-c-init : goal.loop-c-init
loop-c-init c = rw (c.into_iter-c-iterator.ensures.into_iter_gives, c.of-c-items.ensures.same_table, c.of-c-items.ensures.from_start) (refl, lines_none c.requires)

pub put_line_at-at-requires : goal.put_line_at-at-requires
put_line_at-at-requires c =
    let at = goal.at.put_line_at-at-requires c in
    let can = c.requires in
    let next = found at.In-Some in
    rw (clock_is at.After-clock-minute) (next_cell_in can.sound next, can.sound.clock_in, next.is_one.in_life, line_fits can c.loop-c.invariant.1 _ next)

pub loop-c-preserved : goal.loop-c-preserved
loop-c-preserved c =
    let at = goal.at.loop-c-preserved c in
    let step = c.in-Some.ensures.steps in
    let inv = c.loop-c.invariant in
    let written = lines_next c.requires inv.1 _ (found at.In-Some) (rw (clock_is at.After-clock-minute) at c.put_line_at-at.ensures) in
    (same_words step ∙ inv.0, rw step.goes_on written)

-- none is left, so all that was measured is written
end : (c : In-None) → c.args.total ≡ c.loop-c.at
end c = let inv = c.loop-c.invariant in lines_end c.requires inv.1 (rw inv.0 at c.in-None.ensures.steps.next)

pub prove_eq-unreachable-requires : goal.prove_eq-unreachable-requires
prove_eq-unreachable-requires c = omega (arith, end (goal.at.prove_eq-unreachable-requires c).In-None, c.if-prove_eq.true)

pub returns : goal.returns
returns c = lines_all c.requires c.loop-c.invariant.1 (omega (arith, end (goal.at.returns c).In-None))
