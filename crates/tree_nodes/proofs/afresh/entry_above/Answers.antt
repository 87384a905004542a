use borrow.Author.Rules.{rules}
use mir.Syntax.{w32}
use mir.Val.{SFits}
use Rattle.whole.specs.Laws.Within.{back}
use Rattle.table.specs.Header.{entries_at}
use Rattle.tree_nodes.specs.Inner.EntryAfresh.{entry_above}
use Rattle.tree_nodes.proofs.afresh.entry_above.Goals as goal

pub work_out-until-requires : goal.work_out-until-requires
unfolding entries_at
work_out-until-requires c =
    rw (back c.ranges.minute, c.node_at.ensures) (c.requires.2, c.requires.3)

pub returns : goal.returns
unfolding entry_above entries_at
returns c =
    let worked = c.work_out-until in
    let bounds = simp (back c.ranges.minute) at worked.ensures.bounds in
    let fits : SFits w32 c.work_out-until.result.1 = search rules in
    let made = simp (back c.ranges.minute) at c.inner_entry.ensures in
    rw (← c.node_at.ensures, made, bounds, back {w = w32} fits, worked.ensures.until)
