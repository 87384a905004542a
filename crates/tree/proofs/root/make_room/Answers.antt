use Rattle.std.proofs.Common.{◌≡◌, length, ap, ◌∙◌, arith}
use Rattle.table.specs.Header.{root, entries_at}
use Rattle.table.specs.Laws.AtNode.{at_most}
use Rattle.tree.specs.Laws.Grow.{grown_none}
use Rattle.tree.proofs.root.make_room.Goals as goal

pub returns-else-count_at-eq-FULL_NODE : goal.returns-else-count_at-eq-FULL_NODE
returns-else-count_at-eq-FULL_NODE c =
    let w = c.args.t.now in
    let count_is : c.count_at.result ≡ length (entries_at w (root w)) = c.count_at.ensures ∙ ap (λ i. length (entries_at w i)) c.root.ensures.0 in
    grown_none c.requires.holding (omega (arith, count_is, at_most w (root w), c.if-count_at-eq-FULL_NODE.false))
