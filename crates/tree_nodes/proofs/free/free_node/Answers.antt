use Rattle.std.proofs.Common.{◌≡◌, length, rules, tests}
use Rattle.std.proofs.lemmas.Iterator.{first_from_Range}
use Rattle.table.specs.Header.{entries_at}
use Rattle.tree_nodes.specs.Laws.FirstFree.{first_free}
use Rattle.tree_nodes.proofs.free.free_node.Goals as goal

pub returns : goal.returns
returns c =
    let N = entries_at c.args.t.now in
    first_free N c.args.nodes c.find.result
    (first_from_Range _ _ _ _ (λ i. length (N i) ≡ 0) (λ i. length (N i) ≡ 0 → ⊥) c.find.ensures.ran (λ i q r. search (rules, tests)) (λ i q r. (search (rules, tests), λ e. search (rules, tests))))
