-- What the crate `node` says of a node's words, said of the entries of node i of a table.
use Rattle.std.specs.Prelude.{◌≡◌, List, [], ◌∷◌, ℕ, ◌+◌, ◌≤◌, ◌<◌, ℤ, length, get_or}
use Rattle.std.proofs.Common.{sym, ◌∙◌, arith}
use Rattle.std.proofs.Math.Path.{ap}
use Rattle.std.proofs.Math.ListN.{drop}
use Rattle.words.specs.Layout.{full_node, node_at, entry_at}
use Rattle.node.specs.Entry.{Entry, entry_count, entries_of}
use Rattle.node.specs.Inner.ChangeAt.{Changed}
use Rattle.node.specs.Laws.Entry.{count_fits, length-entries_of, entry_is, entries_next}
use Rattle.table.specs.Header.{entries_at}

module _ (w : List ℤ) (i : ℕ) where
  pub length_at : length (entries_at w i) ≡ entry_count (node_at w i)
  unfolding entries_at
  length_at = length-entries_of (node_at w i)

  pub at_most : length (entries_at w i) ≤ full_node
  at_most = omega (arith, length_at, count_fits (node_at w i))

  pub entry_here : (k : ℕ) → k < length (entries_at w i) → get_or (entries_at w i) k [] ≡ entry_at (node_at w i) k
  unfolding entries_at
  entry_here k low = entry_is (node_at w i) k (omega (arith, length_at))

  pub entries_left : (k : ℕ) → k < length (entries_at w i) → drop k (entries_at w i) ≡ get_or (entries_at w i) k [] ∷ drop (k + 1) (entries_at w i)
  unfolding entries_at
  entries_left k low = entries_next (node_at w i) k (omega (arith, length_at)) ∙ ap (λ e. e ∷ drop (k + 1) (entries_of (node_at w i))) (sym (entry_here k low))

  -- a change of the node's words, whatever it makes of its entries
  pub changed_at : (to : List Entry → List Entry) {v : List ℤ} → Changed w i (to (entries_of (node_at w i))) v → Changed w i (to (entries_at w i)) v
  unfolding entries_at
  changed_at to c = c
