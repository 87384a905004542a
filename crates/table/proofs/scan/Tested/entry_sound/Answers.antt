use mathlib.Core.Path.{◌≡◌, ap, ◌∙◌}
use mir.Syntax.{w32}
use mir.Val.{SFits}
use Rattle.std.proofs.Common.{rules}
use Rattle.whole.specs.Laws.Within.{back}
use Rattle.whole.specs.Laws.Tells.{tells_false, tells_as, passed, failed}
use Rattle.words.specs.Layout.{entry_at, node_at}
use Rattle.node.specs.Entry.{child_of, entries_of}
use Rattle.table.specs.Header.{entries_at}
use Rattle.table.specs.Laws.ScanParts.{entry_sound, stamp_sound, node_in_table, leaf_test}
use Rattle.table.proofs.scan.Tested.entry_sound.Goals as goal
use Rattle.table.proofs.scan.Tested.entry_sound.Goals.{After-node_at-c}

entries_are : (c : After-node_at-c) → let a = c.args in entries_of c.node_at-c.result.now ≡ entries_at a.self.now.table.now (child_of (entry_at a.n.now a.k))
unfolding entries_at
entries_are c = ap entries_of (c.node_at-c.ensures ∙ ap (node_at c.args.self.now.table.now) c.child.ensures.0)

pub node_at-c-requires : goal.node_at-c-requires
node_at-c-requires c = node_in_table c.args.self.now.table.now _ _ _ c.args.self.now.room (passed c.child_sound.ensures c.if-not-child_sound.false).child_in c.child.ensures.0

pub returns-then-stamp_sound : goal.returns-then-stamp_sound
returns-then-stamp_sound c =
    let at = (goal.at.returns-then-stamp_sound c).After-node_at-c in
    let fits : SFits w32 c.args.self.now.clock = search rules in
    let stamp = simp (entries_are at, back fits) at c.stamp_sound.ensures in
    let told = simp (leaf_test c.args.below, entries_are at) at c.is_worked_out.ensures in
    tells_as told (entry_sound _ _ _ _ _ (passed c.child_sound.ensures c.if-not-child_sound.false) (passed stamp c.if-stamp_sound.true)) (λ e. e.worked_out)

pub returns-else-stamp_sound : goal.returns-else-stamp_sound
returns-else-stamp_sound c =
    let at = (goal.at.returns-else-stamp_sound c).After-node_at-c in
    let fits : SFits w32 c.args.self.now.clock = search rules in
    let stamp = simp (entries_are at, back fits) at c.stamp_sound.ensures in
    rw c.if-stamp_sound.false (tells_false (λ e. failed stamp c.if-stamp_sound.false (stamp_sound e)))
