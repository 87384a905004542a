use mathlib.Core.Path.{◌≡◌}
use Rattle.whole.specs.Laws.Within.{back}
use Rattle.table.specs.Header.{root, height}
use Rattle.tree_nodes.specs.Inner.Takes.{Takes}
use Rattle.tree.specs.Laws.Clear.{taken_loose, cleared_one, clears_none, clears_one}
use Rattle.tree.proofs.clear.clear_one.Goals as goal
use Rattle.tree.proofs.clear.clear_one.Goals.{After-height-h, After-root-i, After-take_out}

-- ---- what the code knows at its places
height_is : (c : After-height-h) → c.height-h.result ≡ height c.args.t.now
height_is c = c.height-h.ensures.0

root_is : (c : After-root-i) → c.root-i.result ≡ root c.args.t.now
root_is c = c.root-i.ensures.0

tried : (c : After-take_out) → let a = c.args in let w = a.t.now in Takes w a.minute a.id (height w) (root w) 0 c.take_out.result c.take_out.new.t
tried c = simp (back c.ranges.minute, back c.ranges.id, height_is c.before.before.before, root_is c.before.before) at c.take_out.ensures

pub returns-then-not-take_out : goal.returns-then-not-take_out
returns-then-not-take_out c = clears_none (tried (goal.at.returns-then-not-take_out c).After-take_out) c.if-not-take_out.true

pub settle_root-requires : goal.settle_root-requires
settle_root-requires c = record { minute = c.args.minute; loose = taken_loose c.requires ((tried (goal.at.settle_root-requires c).After-take_out).one c.if-not-take_out.false) }

pub returns : goal.returns
returns c =
    let t = (tried (goal.at.returns c).After-take_out).one c.if-not-take_out.false in
    clears_one (cleared_one c.requires t (c.settle_root.ensures c.args.minute (taken_loose c.requires t)))
