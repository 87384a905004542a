-- The search for the first free node, step by step; a node that is counted is free where it has no entries.
use Rattle.std.specs.Prelude.{◌≡◌, refl, Option, Some, None, IsSome, MatchOption, ℕ, ◌+◌, ◌≤◌, ◌<◌, ℤ}
use Rattle.std.proofs.Common.{subst, ◌∙◌, not-suc-le-zero, arith}
use Rattle.std.proofs.Math.Path.{ap, sym}
use mathlib.Core.List.{List, []}
use Rattle.std.proofs.Math.Decide.{ℕ_discrete}
use Rattle.std.proofs.Math.ListN.{length, drop}
use Rattle.std.proofs.lemmas.List.{nil_from_length}
use Rattle.words.specs.Layout.{node_at}
use Rattle.node.specs.Entry.{entries_of, entry_count}
use Rattle.node.specs.Laws.Entry.{length-entries_of, entries_end}
use Rattle.table.specs.Header.{entries_at}
use Rattle.table.specs.SoundTree.{Nodes}
use Rattle.tree_laws.specs.Inner.Used.{Free}
use Rattle.tree_nodes.specs.Inner.FirstFree.{NoneFree, FirstFree}

-- where there is a free node, one is found
pub some_found : {N : Nodes} {n : ℕ} {r : Option ℕ} → FirstFree N n r → (j : ℕ) × (j < n) × Free N j → IsSome r
some_found {r = None} f some = absurd ((f.none refl).taken some.0 some.1 some.2)
some_found {r = Some i} f some = refl

-- the node that is found is a free one of those
pub found_free : {N : Nodes} {n r : ℕ} → FirstFree N n (Some r) → (r < n) × Free N r
found_free {r} f = let i = f.found r refl in (i.0, i.1)

-- what a search of the numbers below n finds that tries how many entries a node has
pub first_free : (N : Nodes) (n : ℕ) (r : Option ℕ)
    → MatchOption r ((k : ℕ) → 0 ≤ k → k < n → length (N k) ≡ 0 → ⊥) (λ i. (0 ≤ i) × (i < n) × (length (N i) ≡ 0) × ((k : ℕ) → 0 ≤ k → k < i → length (N k) ≡ 0 → ⊥))
    → FirstFree N n r
first_free N n None none = record { found = λ i e. absurd (cc); none = λ e. record { taken = λ j lt f. none j (omega arith) lt (ap length f) } }
first_free N n (Some i) f = record {
  found = λ j e. let same : i ≡ j = cc in rw (← same) (f.1, nil_from_length (N i) f.2, record { taken = λ k lt g. f.3 k (omega arith) lt (ap length g) });
  none = λ e. absurd (cc);
}

-- ---- for the search
pub none_free : (N : Nodes) → NoneFree N 0
none_free N = record { taken = λ j lt f. not-suc-le-zero lt }

module _ (w : List ℤ) (i : ℕ) where
  pub count_free : entry_count (node_at w i) ≡ 0 → Free (entries_at w) i
  unfolding entries_at
  count_free none = let e : drop 0 (entries_of (node_at w i)) ≡ [] = rw none at (entries_end (node_at w i)) in e

  pub free_count : Free (entries_at w) i → entry_count (node_at w i) ≡ 0
  unfolding entries_at
  free_count f = sym (length-entries_of (node_at w i)) ∙ ap length f

  pub none_more : NoneFree (entries_at w) i → (entry_count (node_at w i) ≡ 0 → ⊥) → NoneFree (entries_at w) (i + 1)
  none_more before some = record { taken = λ j lt f. by j lt f (ℕ_discrete j i) }
    where
      by : (j : ℕ) → j < i + 1 → Free (entries_at w) j → Dec (j ≡ i) → ⊥
      by j lt f (yes e) = some (free_count (subst (Free (entries_at w)) e f))
      by j lt f (no ne) = before.taken j (omega arith) f
