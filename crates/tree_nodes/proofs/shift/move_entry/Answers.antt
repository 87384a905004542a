use mathlib.Core.Path.{sym, ◌∙◌}
use mathlib.Core.List.{[], ◌∷◌, ◌++◌}
use native.Mathlib.Omega.{arith}
use Prim.Native.Nat.{◌<◌}
use Rattle.words.specs.Layout.{full_node, node_at}
use Rattle.node.specs.Entry.{entry_count}
use Rattle.node.specs.Inner.ChangeAt.{Changed}
use Rattle.table.specs.Header.{entries_at}
use Rattle.node.specs.Inner.Change.{without}
use Rattle.table.specs.Laws.AtNode.{length_at, at_most, entry_here, changed_at}
use Rattle.tree_nodes.specs.Laws.Kept.{ample_in}
use Rattle.tree_nodes.specs.Laws.Shift.{shift_one}
use Rattle.tree_nodes.proofs.shift.move_entry.Goals as goal
use Rattle.tree_nodes.proofs.shift.move_entry.Goals.{After-remove_at}

pub entry_at-e-requires : goal.entry_at-e-requires
entry_at-e-requires c =
    let can = c.requires in
    (ample_in can.ample c.args.from can.from_in, omega (arith, can.has, at_most c.args.t.now c.args.from))

pub remove_at-requires : goal.remove_at-requires
remove_at-requires c =
    let can = c.requires in
    (ample_in can.ample c.args.from can.from_in, omega (arith, can.has, length_at c.args.t.now c.args.from))

taken_out : (c : After-remove_at) → let a = c.args in Changed a.t.now a.from (without a.k (entries_at a.t.now a.from)) c.remove_at.new.t
taken_out c =
    changed_at c.args.t.now c.args.from (without c.args.k) c.remove_at.ensures

-- the other node is as it was
room : (c : After-remove_at) → entry_count (node_at c.remove_at.new.t c.args.to) < full_node
room c =
    rw ((taken_out c).others c.args.to c.requires.apart) (omega (arith, c.requires.room, length_at c.args.t.now c.args.to))

pub append_at-requires : goal.append_at-requires
append_at-requires c =
    let out = taken_out (goal.at.append_at-requires c).After-remove_at in
    (rw out.same_length (ample_in c.requires.ample c.args.to c.requires.to_in), room (goal.at.append_at-requires c).After-remove_at)

pub returns : goal.returns
returns c =
    let out = taken_out (goal.at.returns c).After-remove_at in
    let v = c.remove_at.new.t in
    let e = c.entry_at-e in
    shift_one c.requires (e.ensures ∙ sym (entry_here c.args.t.now c.args.from c.args.k c.requires.has)) out
    (changed_at v c.args.to (λ es. es ++ e.result ∷ []) c.append_at.ensures)
