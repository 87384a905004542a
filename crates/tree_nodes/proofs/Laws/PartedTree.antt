-- What a parting is to the tree: the split of a child.
use Rattle.std.specs.Prelude.{◌≡◌, refl, List, [], ◌∷◌, ◌++◌, ℕ, suc, ◌+◌, ◌-◌, ◌<◌, ℤ, length, get_or, set}
use Rattle.std.proofs.Common.{ap, ◌∙◌, arith, length-set, length-append, get_or-set_same}
use Rattle.std.proofs.Math.ListN.{get_or-append}
use Rattle.std.proofs.Math.Seq.{get_or-append_seam}
use Rattle.track.specs.Numbers.{IsMinute}
use Rattle.node.specs.Entry.{Entry, child_of}
use Rattle.table.specs.Header.{capacity, entries_at}
use Rattle.table.specs.SoundTree.{Nodes, is_leaf, TreeSound}
use Rattle.tree_laws.specs.Inner.Weights.{SameWeights, visits, Once}
use Rattle.tree_laws.specs.Laws.Weights.{sum-append, sum_cons, sum_one, is_node}
use Rattle.node.specs.Inner.Change.{without}
use Rattle.tree_laws.specs.Laws.Places.{at_weights, set_weights}
use Rattle.tree_laws.specs.Inner.Moved.{no_weight, no_node}
use Rattle.tree_laws.specs.Laws.Regroup.{Afresh}
use Rattle.tree_laws.specs.Inner.Climb.{Mended}
use Rattle.tree_laws.specs.Laws.Climb.{split_mended}
use Rattle.tree_nodes.specs.Inner.EntryAfresh.{entry_above}
use Rattle.tree_nodes.specs.Laws.EntryAfresh.{child_above, above_afresh}
use Rattle.tree_nodes.specs.Inner.PartChild.{child_at, Parted}
use Rattle.tree_nodes.specs.Laws.PartChild.{child_low}

-- the entries of the two parts
abbrev pub stay_entry : {w : List ℤ} {minute : ℤ} {h i k : ℕ} {v : List ℤ} → Parted w minute h i k v → Entry
stay_entry {minute} {h} {v} p = entry_above (entries_at v) (is_leaf h) minute p.full

abbrev pub go_entry : {w : List ℤ} {minute : ℤ} {h i k : ℕ} {v : List ℤ} → Parted w minute h i k v → Entry
go_entry {minute} {h} {v} p = entry_above (entries_at v) (is_leaf h) minute p.node

module _ {w : List ℤ} {minute : ℤ} {h i k : ℕ} {v : List ℤ} (is : IsMinute minute) (sound : TreeSound (entries_at w) (capacity w) minute (suc h) i)
    (has : k < length (entries_at w i)) (p : Parted w minute h i k v) where
  abbrev N : Nodes
  N = entries_at w

  abbrev N' : Nodes
  N' = entries_at v

  pub news : SameWeights (entries_at v i) (stay_entry p ∷ go_entry p ∷ without k (entries_at w i))
  news = rw p.child.entries (record {
    same = λ φ. omega (
      arith,
      (set_weights (N i) k (stay_entry p) has).same φ,
      sum-append φ (set (N i) k (stay_entry p)) (go_entry p ∷ []),
      sum_one φ (go_entry p),
      sum_cons φ (stay_entry p) (without k (N i)),
      sum_cons φ (stay_entry p) (go_entry p ∷ without k (N i)),
      sum_cons φ (go_entry p) (without k (N i)),
    );
  })

  pub child_kept : child_of (stay_entry p) ≡ child_at (entries_at w) i k
  child_kept = child_above N' (is_leaf h) minute p.full ∙ p.child_is

  pub child_new : child_of (go_entry p) ≡ p.node
  child_new = child_above N' (is_leaf h) minute p.node

  pub two : SameWeights (entries_at w (child_at (entries_at w) i k)) (entries_at v (child_at (entries_at w) i k) ++ entries_at v p.node)
  two = rw p.child_is at p.child.parted

  pub others : (j : ℕ) → (j ≡ i → ⊥) → (j ≡ child_at (entries_at w) i k → ⊥) → (j ≡ p.node → ⊥) → entries_at v j ≡ entries_at w j
  others j q r s = p.child.other j q (λ (e : j ≡ p.full). r (e ∙ p.child_is)) s

  pub afresh_stay : Afresh (entries_at v) (capacity w) minute h (stay_entry p)
  afresh_stay = above_afresh N' (capacity w) minute h p.full is (rw p.child_is (child_low N (capacity w) minute h i k sound has)) p.child.stay.filled

  pub afresh_go : Afresh (entries_at v) (capacity w) minute h (go_entry p)
  afresh_go = above_afresh N' (capacity w) minute h p.node is p.child.low p.child.go.filled

  -- the places: one entry more, the parts' at place k and last
  pub many : length (entries_at v i) ≡ length (entries_at w i) + 1
  many = rw p.child.entries (simp (length-append, length-set) refl)

  pub first : child_at (entries_at v) i k ≡ p.full
  first =
      ap child_of (
      ap (λ (l : List Entry). get_or l k []) p.child.entries ∙
      get_or-append (set (N i) k (stay_entry p)) (go_entry p ∷ []) [] k (simp length-set has) ∙
      get_or-set_same (N i) k (stay_entry p) [] has) ∙
      child_above N' (is_leaf h) minute p.full

  pub last : child_at (entries_at v) i (length (entries_at v i) - 1) ≡ p.node
  last =
      let place : length (N' i) - 1 ≡ length (set (N i) k (stay_entry p)) = simp length-set (omega (arith, many)) in
      let there : get_or (N' i) (length (N' i) - 1) [] ≡ go_entry p =
      rw place (ap (λ (l : List Entry). get_or l (length (set (N i) k (stay_entry p))) []) p.child.entries ∙ get_or-append_seam (set (N i) k (stay_entry p)) (go_entry p) [] []) in
      ap child_of there ∙ child_above N' (is_leaf h) minute p.node

  -- the node is mended
  pub parted_mended : Once (entries_at w) (suc h) i → visits p.node (entries_at w) (suc h) i ≡ 0
      → Mended (capacity w) minute (entries_at w) (entries_at v) (suc h) i no_weight no_weight (λ j. is_node j p.node) no_node
  parted_mended once unmet =
      split_mended (capacity w) minute N N' h i p.node once sound (at_weights (N i) k [] has) news child_kept child_new two unmet others afresh_stay afresh_go
