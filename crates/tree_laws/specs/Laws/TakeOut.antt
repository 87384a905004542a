-- An entry taken out: from a leaf, and below a child that is then mended.
use Rattle.std.specs.Prelude.{◌≡◌, List, [], ◌∷◌, ◌++◌, ℕ, zero, suc, ◌+◌, ◌≤◌, ℤ, length}
use mathlib.Core.List.Memᴰ
use Rattle.std.proofs.Common.{not-suc-le-zero, arith}
use Rattle.node.specs.Entry.{Entry, child_of}
use Rattle.table.specs.SoundTree.{Nodes, TreeSound}
use Rattle.table.specs.Inner.Scan.{SoundIn}
use Rattle.tree_laws.specs.Inner.Weights.{SameWeights, Once}
use Rattle.tree_laws.specs.Laws.Weights.{sum_cons, same_refl, same_sym, same_trans, same_append, same_swap, same_length, same_entries, sound_has, sound_head, sound_tail, is_node}
use Rattle.tree_laws.specs.Inner.Moved.{Moved, no_weight, no_node}
use Rattle.tree_laws.specs.Laws.Moved.{fresh_none, moved_down}
use Rattle.tree_laws.specs.Laws.Regroup.{Afresh, refresh_moved, join_moved, share_moved}
use Rattle.tree_laws.specs.Laws.Leaf.{leaf_moved, leaf_sound, leaf_renews}
use Rattle.tree_laws.specs.Laws.Climb.{climb_has, climb_once, climb_refresh, climb_into, climb_share}
use Rattle.tree_laws.specs.Inner.Used.{Free}
use Rattle.tree_laws.specs.Laws.Used.{free_node, freed_trans}
use Rattle.tree_laws.specs.Inner.TakeOut.{TakeOut}

-- from a leaf
pub out_leaf : (cells : ℕ) (clock : ℤ) (N N' : Nodes) (i : ℕ) {x : Entry} → Once N zero i → TreeSound N cells clock zero i → SameWeights (N i) (x ∷ N' i) → ((j : ℕ) → (j ≡ i → ⊥) → N' j ≡ N j)
    → TakeOut cells clock N N' zero i x
unfolding TreeSound
out_leaf cells clock N N' i {x} once sound less other =
    let moved = leaf_moved N N' i {put = no_weight} {out = λ φ. φ x} (λ φ. omega (arith, less.same φ, sum_cons φ x (N' i))) other in
    record {
      gone = no_node;
      mended = record {
        moved = moved;
        once = λ j. omega (arith, moved.met j, once j);
        sound = leaf_sound N' cells clock i (λ e m. sound e (same_entries (same_sym less) e (Memᴰ.tail m)));
        renews = leaf_renews clock N N' i;
      };
      are_free = λ j some. absurd (not-suc-le-zero some);
      one_fewer = omega (arith, same_length less);
    }

-- below a child of node i, which has its entry e and the entries rest
module _ (cells : ℕ) (clock : ℤ) (N N₁ N₂ : Nodes) (h i : ℕ) {e x : Entry} {rest : List Entry} (has : SameWeights (N i) (e ∷ rest)) (once : Once N (suc h) i)
    (sound : TreeSound N cells clock (suc h) i) (p : TakeOut cells clock N N₁ h (child_of e) x) where
  -- the child has two entries at least
  pub out_left : 2 ≤ length (N₁ (child_of e))
  out_left = omega (arith, p.one_fewer, (sound_head N cells clock h e rest (sound_has N cells clock (suc h) i has sound)).0.filled)

  rest_sound : SoundIn N cells clock (suc h) rest
  rest_sound = sound_tail N cells clock (suc h) e rest (sound_has N cells clock (suc h) i has sound)

  down : Moved N N₁ (suc h) i no_weight (λ φ. φ x) no_node p.gone
  down = moved_down i has once (fresh_none N (suc h) i) p.mended.moved

  has₁ : SameWeights (N₁ i) (e ∷ rest)
  has₁ = climb_has cells clock i has once (fresh_none N (suc h) i) rest_sound p.mended

  once₁ : Once N₁ (suc h) i
  once₁ = climb_once cells clock i has once (fresh_none N (suc h) i) rest_sound p.mended

  -- its entry gives way to one worked out afresh
  pub out_refresh : {e' : Entry} → SameWeights (N₂ i) (e' ∷ rest) → child_of e' ≡ child_of e → ((j : ℕ) → (j ≡ i → ⊥) → N₂ j ≡ N₁ j)
      → Afresh N₂ cells clock h e' → TakeOut cells clock N N₂ (suc h) i x
  out_refresh has' child other afresh = record {
    gone = p.gone;
    mended = climb_refresh cells clock i has once (fresh_none N (suc h) i) rest_sound p.mended has' child other afresh;
    are_free = λ j some.
        freed_trans down (refresh_moved N₁ N₂ cells clock h i once₁ has₁ has' child other) once p.are_free (λ k none. absurd (not-suc-le-zero none)) j (omega arith);
    one_fewer = omega (arith, same_length has, same_length has');
  }

  module _ {b : Entry} {rest' : List Entry} (beside : SameWeights rest (b ∷ rest'))
      (other : (j : ℕ) → (j ≡ i → ⊥) → (j ≡ child_of e → ⊥) → (j ≡ child_of b → ⊥) → N₂ j ≡ N₁ j) where
    has₂ : SameWeights (N₁ i) (e ∷ b ∷ rest')
    has₂ = same_trans has₁ (same_append {l = e ∷ []} same_refl beside)

    has₃ : SameWeights (N₁ i) (b ∷ e ∷ rest')
    has₃ = same_trans has₂ (same_append (same_swap (e ∷ []) (b ∷ [])) (same_refl {l = rest'}))

    -- it is freed, and b's child takes its entries
    pub out_into : {b' : Entry} → SameWeights (N₂ i) (b' ∷ rest') → child_of b' ≡ child_of b → SameWeights (N₁ (child_of b) ++ N₁ (child_of e)) (N₂ (child_of b)) → Free N₂ (child_of e)
        → Afresh N₂ cells clock h b' → TakeOut cells clock N N₂ (suc h) i x
    out_into has' child joined free afresh = record {
      gone = λ j. p.gone j + is_node j (child_of e);
      mended = climb_into cells clock i has once (fresh_none N (suc h) i) rest_sound p.mended beside other has' child joined afresh;
      are_free = freed_trans down (join_moved N₁ N₂ cells clock h i once₁ has₃ (λ j q r s. other j q s r) has' child joined) once p.are_free (free_node N₂ (child_of e) free);
      one_fewer = omega (arith, same_length has, same_length beside, same_length has');
    }

    -- the two share their entries out anew
    pub out_share : {e' b' : Entry} → SameWeights (N₂ i) (e' ∷ b' ∷ rest') → child_of e' ≡ child_of e → child_of b' ≡ child_of b
        → SameWeights (N₁ (child_of e) ++ N₁ (child_of b)) (N₂ (child_of e) ++ N₂ (child_of b)) → Afresh N₂ cells clock h e' → Afresh N₂ cells clock h b'
        → TakeOut cells clock N N₂ (suc h) i x
    out_share has' child-e child-b shared afresh-e afresh-b = record {
      gone = p.gone;
      mended = climb_share cells clock i has once (fresh_none N (suc h) i) rest_sound p.mended beside other has' child-e child-b shared afresh-e afresh-b;
      are_free = λ j some.
          freed_trans down (share_moved N₁ N₂ cells clock h i once₁ has₂ other has' child-e child-b shared) once p.are_free (λ k none. absurd (not-suc-le-zero none)) j (omega arith);
      one_fewer = omega (arith, same_length has, same_length beside, same_length has');
    }
