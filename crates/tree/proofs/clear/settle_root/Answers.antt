use mathlib.Core.Path.{◌≡◌, ap, ◌∙◌}
use Prim.Native.Nat.{suc, ◌-◌}
use native.Mathlib.Omega.{arith}
use lib.ListN.{length, take}
use Rattle.node.specs.Inner.ChangeAt.{Changed}
use Rattle.table.specs.Header.{root, height, entries_at}
use Rattle.table.specs.Laws.AtNode.{changed_at}
use Rattle.table.specs.Inner.Headed.{Rooted}
use Rattle.tree_nodes.specs.Inner.PartChild.{child_at}
use Rattle.tree.specs.Laws.Settle.{long, child_low, settled_way}
use Rattle.tree.proofs.clear.settle_root.Goals as goal
use Rattle.tree.proofs.clear.settle_root.Goals.{After-height-h, Else-h-eq0, After-root-i, After-count_at, Else-count_at-ge2, After-child_at-child, After-keep_at, After-set_root}

-- ---- what the code knows at its places
height_is : (c : After-height-h) → c.height-h.result ≡ height c.args.t.now
height_is c = c.height-h.ensures.0

root_is : (c : After-root-i) → c.root-i.result ≡ root c.args.t.now
root_is c = c.root-i.ensures.0

count_is : (c : After-count_at) → let w = c.args.t.now in c.count_at.result ≡ length (entries_at w (root w))
count_is c = c.count_at.ensures ∙ ap (λ i. length (entries_at c.args.t.now i)) (root_is c.before)

tall : (c : Else-h-eq0) → let w = c.args.t.now in height w ≡ suc (height w - 1)
tall c = omega (arith, height_is c.before, c.if-h-eq0.false)

one : (c : Else-count_at-ge2) → let w = c.args.t.now in length (entries_at w (root w)) ≡ 1
one c =
    let l = c.requires.loose in
    omega (arith, count_is c.before, c.if-count_at-ge2.false, l.some (omega (arith, tall c.before.before.before)))

child_is : (c : After-child_at-child) → let w = c.args.t.now in c.child_at-child.result ≡ child_at (entries_at w) (root w) 0
child_is c = rw (root_is c.before.before.before) at c.child_at-child.ensures

freed : (c : After-keep_at) → let w = c.args.t.now in Changed w (root w) (take 0 (entries_at w (root w))) c.keep_at.new.t
freed c =
    let w = c.args.t.now in
    rw (root_is c.before.before.before.before.before) at (changed_at w c.root-i.result (take 0) c.keep_at.ensures.0)

rooted_is : (c : After-set_root) → let w = c.args.t.now in Rooted c.keep_at.new.t c.child_at-child.result (height w - 1) c.set_root.new.t
rooted_is c = rw (height_is c.before.before.before.before.before.before.before.before.before.before) at c.set_root.ensures

pub set_root-requires : goal.set_root-requires
set_root-requires c =
    let l = c.requires.loose in
    let f = freed (goal.at.set_root-requires c).After-keep_at in
    let is = child_is (goal.at.set_root-requires c).After-child_at-child in
    (long l (tall (goal.at.set_root-requires c).Else-h-eq0) (one (goal.at.set_root-requires c).Else-count_at-ge2) is f, child_low l (tall (goal.at.set_root-requires c).Else-h-eq0) (one (goal.at.set_root-requires c).Else-count_at-ge2) is f, omega (arith, c.height-h.ensures.1))

pub returns : goal.returns
returns c = λ minute l. settled_way l (tall (goal.at.returns c).Else-h-eq0) (one (goal.at.returns c).Else-count_at-ge2) (child_is (goal.at.returns c).After-child_at-child) (freed (goal.at.returns c).After-keep_at) (rooted_is (goal.at.returns c).After-set_root)
