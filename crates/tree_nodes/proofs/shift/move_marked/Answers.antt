use Rattle.std.proofs.Common.{◌≡◌, ◌-◌, ◌+◌, subst, arith}
use Rattle.tree_nodes.specs.Laws.Marked.{GoneFrom, gone_none, can_go, gone_go, gone_stay}
use Rattle.tree_nodes.proofs.shift.move_marked.Goals as goal
use Rattle.tree_nodes.proofs.shift.move_marked.Goals.{In-loop-k}

pub loop-k-init : goal.loop-k-init
loop-k-init c = gone_none c.requires

-- those behind the entry that is tried have gone
behind : (c : In-loop-k) → let a = c.args in let l = c.loop-k in GoneFrom a.t.now a.from a.to a.marks (l.k - 1 + 1) l.t
behind c =
    let a = c.args in
    let l = c.loop-k in
    let e : l.k ≡ l.k - 1 + 1 = omega arith in
    subst (λ n. GoneFrom a.t.now a.from a.to a.marks n l.t) e l.invariant

pub move_entry-requires : goal.move_entry-requires
move_entry-requires c = can_go c.requires _ (omega arith) (behind (goal.at.move_entry-requires c).In-loop-k)

pub loop-k-preserved-then-marks-k : goal.loop-k-preserved-then-marks-k
loop-k-preserved-then-marks-k c =
    gone_go c.requires _ (omega arith) (behind (goal.at.loop-k-preserved-then-marks-k c).In-loop-k) c.if-marks-k.true c.move_entry.ensures

pub loop-k-preserved : goal.loop-k-preserved
loop-k-preserved c = gone_stay c.requires _ (omega arith) (behind (goal.at.loop-k-preserved c).In-loop-k) c.if-marks-k.false

pub returns : goal.returns
returns c =
    let a = c.args in
    let l = c.loop-k in
    let end : l.k ≡ 0 = omega arith in
    subst (λ n. GoneFrom a.t.now a.from a.to a.marks n l.t) end l.invariant
