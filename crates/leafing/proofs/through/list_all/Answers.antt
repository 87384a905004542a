use Rattle.std.proofs.Common.{◌≡◌, refl, ap, ◌∙◌, List, ℤ, Bor, Some}
use Rattle.leafing.specs.NextLive.{Steps}
use Rattle.leafing.specs.Laws.LeafingList.{going_none, going_fits, going_next, all_listed}
use Rattle.leafing.proofs.through.list_all.Goals as goal
use Rattle.leafing.proofs.through.list_all.Goals.{In-Some}

-- one table has one list of words
words_of : {t u : Bor (List ℤ)} → t ≡ u → t.now ≡ u.now
words_of e = ap (λ (t : Bor (List ℤ)). t.now) e

-- the step that gave a cell is a step over the lent table
gave : (c : In-Some) → Steps c.args.t.now c.loop-c.c-iterator.last (Some c.in-Some.c)
gave c = rw c.loop-c.invariant.0 at c.in-Some.ensures.steps.steps

pub loop-c-init : goal.loop-c-init
loop-c-init c = rw (c.into_iter-c-iterator.ensures.into_iter_gives, c.open-l.ensures.same_table, c.open-l.ensures.from_start) (refl, going_none)

pub list_cell-requires : goal.list_cell-requires
list_cell-requires c = going_fits c.loop-c.invariant.1 (gave (goal.at.list_cell-requires c).In-Some) c.requires

pub loop-c-preserved : goal.loop-c-preserved
loop-c-preserved c =
    let inv = c.loop-c.invariant in
    let moves = c.in-Some.ensures.steps in
    let going = going_next inv.1 (gave (goal.at.loop-c-preserved c).In-Some) c.requires c.list_cell.ensures in
    (words_of moves.same_table ∙ inv.0, rw moves.goes_on going)

pub returns : goal.returns
returns c = let inv = c.loop-c.invariant in all_listed inv.1 (rw inv.0 at c.in-None.ensures.steps.steps) c.open-l.ensures.opening refl
