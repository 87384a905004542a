use Rattle.std.proofs.Common.{◌∙◌, ap, rules}
use Rattle.std.proofs.iter.Serving.{serving}
use Rattle.whole.specs.Laws.Within.{word_back}
use Rattle.words.specs.Layout.{entry_at}
use Rattle.node.specs.Entry.{entries_of, until_of}
use Rattle.node.specs.Laws.Entry.{count_fits}
use Rattle.node.specs.Laws.Pass.{latest_pass}
use Rattle.node.proofs.Chains.{mapped, maxed}
use Rattle.node.proofs.worked.latest.Goals as goal

pub max-requires-clause-can : goal.max-requires-clause-can
max-requires-clause-can c = let few = count_fits c.args.node.now in grind serving

pub returns : goal.returns
returns c =
    let node = c.args.node.now in
    let value = until_of c.args.leaf in
    let (p, from, whole, greatest) = c.max.ensures.runs in
    let (q, starts, is_map) = c.map.ensures.runs p p.seen from in
    let calls = is_map.3 (λ k. value (entry_at node k)) (λ x r f' called. (search rules, search rules)) in
    let items = mapped value node q p.items (is_map.0 ∙ whole) (ap (λ r. r.start) starts) (ap (λ r. r.end) starts ∙ c.count.ensures) calls in
    word_back _ c.unwrap_or.type_inv ∙ c.unwrap_or.ensures ∙ maxed value p (entries_of node) c.max.result items greatest ∙ latest_pass c.args.leaf (entries_of node)
