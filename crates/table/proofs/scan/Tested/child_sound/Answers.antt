use mathlib.Core.Path.{◌≡◌, ◌∙◌, ap}
use mir.Syntax.{w32}
use mir.Val.{to_z, of_z}
use Rattle.whole.specs.Laws.Tells.{passed}
use Rattle.whole.specs.Laws.Within.{word_back}
use Rattle.words.specs.Layout.{entry_at, node_at}
use Rattle.node.specs.Entry.{child_word, child_of, entry_count}
use Rattle.table.specs.Header.{IsNode}
use Rattle.table.specs.Laws.ScanParts.{child_tells, node_in_table}
use Rattle.table.proofs.scan.Tested.child_sound.Goals as goal
use Rattle.table.proofs.scan.Tested.child_sound.Goals.{After-place}

-- the child's word
word_is : (c : After-place) → to_z w32 (of_z w32 c.child_word-z.result) ≡ child_word (entry_at c.args.n.now c.args.k)
word_is c = word_back c.child_word-z.result c.child_word-z.type_inv ∙ c.child_word-z.ensures

is_in : (c : After-place) → IsNode c.args.self.now.cells (child_word (entry_at c.args.n.now c.args.k))
is_in c = simp (word_is c) at (passed c.is_node.ensures c.if-is_node.true)

child_is : (c : After-place) → c.place.result ≡ child_of (entry_at c.args.n.now c.args.k)
child_is c = simp (word_is c) at c.place.ensures.0

pub node_at-requires : goal.node_at-requires
node_at-requires c = node_in_table c.args.self.now.table.now _ _ _ c.args.self.now.room (is_in (goal.at.node_at-requires c).After-place) (child_is (goal.at.node_at-requires c).After-place)

pub returns-then-is_node : goal.returns-then-is_node
returns-then-is_node c =
    let a = c.args in
    let p = (goal.at.returns-then-is_node c).After-place in
    let node : c.node_at.result.now ≡ node_at a.self.now.table.now (child_of (entry_at a.n.now a.k)) = c.node_at.ensures ∙ ap (node_at a.self.now.table.now) (child_is p) in
    child_tells a.self.now.table.now a.self.now.cells (entry_at a.n.now a.k) c.count.result (is_in p) (c.count.ensures ∙ ap entry_count node)
