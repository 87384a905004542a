use mathlib.Core.Path.{◌≡◌}
use lib.ListN.{set}
use Rattle.whole.specs.Laws.Within.{back}
use Rattle.table.specs.Header.{entries_at}
use Rattle.tree_nodes.specs.Inner.EntryAfresh.{entry_above}
use Rattle.tree_nodes.specs.Laws.EntryAfresh.{refresh_low}
use Rattle.table.specs.Laws.AtNode.{changed_at}
use Rattle.tree_nodes.proofs.afresh.refresh.Goals as goal
use Rattle.tree_nodes.proofs.afresh.refresh.Goals.{After-entry_above-e}

pub put_at-requires : goal.put_at-requires
put_at-requires c = (c.requires.0.in_table, refresh_low c.requires.0)

-- the entry that is put
entry_is : (c : After-entry_above-e) → let a = c.args in c.entry_above-e.result ≡ entry_above (entries_at a.t.now) a.leaf a.minute a.child
entry_is c = simp (back c.ranges.minute) at c.entry_above-e.ensures

pub returns : goal.returns
returns c =
    rw (← entry_is (goal.at.returns c).After-entry_above-e) (changed_at c.args.t.now c.args.i (λ es. set es c.args.k c.entry_above-e.result) c.put_at.ensures)
