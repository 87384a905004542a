-- A leaf's entries rewritten.
use Rattle.std.specs.Prelude.{◌≡◌, ℤ}
use Prim.Native.Nat.{ℕ, zero, suc, ◌+◌}
use Rattle.std.proofs.Common.{arith}
use Rattle.whole.specs.Lists.{◌∈◌}
use Rattle.track.specs.Life.{CellInRange}
use Rattle.node.specs.Entry.{Entry, cell_of, child_of}
use Rattle.table.specs.SoundTree.{Nodes, leaves_of, TreeSound}
use Rattle.table.specs.Laws.Reach.{flat_in}
use Rattle.tree_laws.specs.Inner.InnerEntries.{AllInner, Renews}
use Rattle.tree_laws.specs.Inner.Weights.{sum_over}
use Rattle.tree_laws.specs.Laws.Weights.{is_other, visits_node, visits_leaf}
use Rattle.tree_laws.specs.Inner.Moved.{Moved, no_node}

module _ (N N' : Nodes) (i : ℕ) where
  -- no node comes in or goes out
  pub leaf_moved : {put out : (Entry → ℕ) → ℕ} → ((φ : Entry → ℕ) → sum_over φ (N' i) + out φ ≡ sum_over φ (N i) + put φ)
      → ((j : ℕ) → (j ≡ i → ⊥) → N' j ≡ N j) → Moved N N' zero i put out no_node no_node
  unfolding leaves_of
  leaf_moved weights other = record {
    other = λ j z g. other j (is_other (omega (arith, visits_node N j zero i)));
    weight = weights;
    met = λ j. omega (arith, visits_node N j zero i, visits_node N' j zero i, visits_leaf N j (N i), visits_leaf N' j (N' i));
  }

-- a leaf is sound where its entries are cells in range
pub leaf_sound : (N : Nodes) (cells : ℕ) (clock : ℤ) (i : ℕ) → ((e : Entry) → e ∈ N i → CellInRange (cell_of e)) → TreeSound N cells clock zero i
unfolding TreeSound
leaf_sound N cells clock i each = each

-- it has no inner entries
pub leaf_renews : (clock : ℤ) (N N' : Nodes) (i : ℕ) → Renews clock N zero i N' zero i
unfolding AllInner
leaf_renews clock N N' i S new all = tt

-- every cell below a sound node is in range
pub leaf_in_range : (N : Nodes) (cells : ℕ) (clock : ℤ) (h i : ℕ) → TreeSound N cells clock h i → (x : Entry) → x ∈ leaves_of N h i → CellInRange (cell_of x)
unfolding TreeSound leaves_of
leaf_in_range N cells clock zero i sound x m = sound x m
leaf_in_range N cells clock (suc h) i sound x m =
    let r = flat_in (λ e. leaves_of N h (child_of e)) (N i) m in
    leaf_in_range N cells clock h (child_of r.0) (sound r.0 r.1).1 x r.2
