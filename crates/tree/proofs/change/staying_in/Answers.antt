use mathlib.Core.Path.{◌≡◌, sym, ◌∙◌}
use Rattle.whole.specs.Laws.Within.{back}
use Rattle.table.specs.Header.{root, height, entries_at}
use Rattle.tree_laws.specs.Laws.Weights.{weight_node}
use Rattle.tree.specs.Inner.Staying.{stays}
use Rattle.tree.specs.Laws.Outcomes.{can_count_root}
use Rattle.tree.proofs.change.staying_in.Goals as goal
use Rattle.tree.proofs.change.staying_in.Goals.{After-height, After-root}

-- ---- what the code knows at its places
height_is : (c : After-height) → c.height.result ≡ height c.args.t.now
height_is c = c.height.ensures.0

root_is : (c : After-root) → c.root.result ≡ root c.args.t.now
root_is c = c.root.ensures.0

pub staying-requires : goal.staying-requires
staying-requires c = simp (height_is (goal.at.staying-requires c).After-height, root_is (goal.at.staying-requires c).After-root) (can_count_root c.requires)

pub returns : goal.returns
returns c =
    let w = c.args.t.now in
    (simp (back c.ranges.minute, back c.ranges.id, height_is (goal.at.returns c).After-height, root_is (goal.at.returns c).After-root) at c.staying.ensures) ∙ sym (weight_node (entries_at w) (stays c.args.minute c.args.id) (height w) (root w))
