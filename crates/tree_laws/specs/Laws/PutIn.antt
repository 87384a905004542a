-- An entry put in: into a leaf, below a child whose entry is then worked out afresh, and after a child was split.
use Rattle.std.specs.Prelude.{◌≡◌, refl, List, ◌∷◌, ℕ, zero, suc, ◌+◌, ◌≤◌, ◌<◌, ℤ, length}
use Rattle.std.proofs.Math.Logic.{⊎_elim}
use mathlib.Core.List.Memᴰ
use Rattle.std.proofs.Math.Decide.{ℕ_discrete}
use Rattle.std.proofs.Common.{not-suc-le-zero, arith}
use Rattle.track.specs.Life.{CellInRange}
use Rattle.node.specs.Entry.{Entry, cell_of, child_of}
use Rattle.table.specs.SoundTree.{Nodes, TreeSound}
use Rattle.tree_laws.specs.Inner.Weights.{SameWeights, Once}
use Rattle.tree_laws.specs.Laws.Weights.{sum_cons, same_length, same_entries, sound_has, sound_head, sound_tail, is_node, not_other}
use Rattle.tree_laws.specs.Inner.Moved.{no_weight, no_node}
use Rattle.tree_laws.specs.Laws.Regroup.{Afresh}
use Rattle.tree_laws.specs.Laws.Leaf.{leaf_moved, leaf_sound, leaf_renews}
use Rattle.tree_laws.specs.Inner.Climb.{Mended}
use Rattle.tree_laws.specs.Laws.Climb.{mended_after, mended_as, climb_refresh}
use Rattle.tree_laws.specs.Inner.Used.{Free}
use Rattle.tree_laws.specs.Laws.Used.{AllUsed, free_unmet, free_back, sound_used}
use Rattle.tree_laws.specs.Inner.PutIn.{PutIn}

module _ (cells : ℕ) (clock : ℤ) (N N' : Nodes) {x : Entry} where
  -- into a leaf
  pub put_leaf : (i : ℕ) → Once N zero i → TreeSound N cells clock zero i → CellInRange (cell_of x) → SameWeights (N' i) (x ∷ N i) → ((j : ℕ) → (j ≡ i → ⊥) → N' j ≡ N j)
      → PutIn cells clock N N' zero i x
  unfolding TreeSound
  put_leaf i once sound in_range more other =
      let moved = leaf_moved N N' i {put = λ φ. φ x} {out = no_weight} (λ φ. omega (arith, more.same φ, sum_cons φ x (N i))) other in
      record {
        got = no_node;
        mended = record {
          moved = moved;
          once = λ j. omega (arith, moved.met j, once j);
          sound = leaf_sound N' cells clock i (λ e m. ⊎_elim (λ (q : e ≡ x). rw q in_range) (sound e) (Memᴰ.cases_cons (same_entries more e m)));
          renews = leaf_renews clock N N' i;
        };
        were_free = λ j some. absurd (not-suc-le-zero some);
        no_fewer = omega (arith, same_length more);
      }

  -- below a child, whose entry gives way to one worked out afresh
  pub put_below : (h i : ℕ) {N₁ : Nodes} {e e' : Entry} {rest : List Entry} → SameWeights (N i) (e ∷ rest) → Once N (suc h) i → TreeSound N cells clock (suc h) i
      → PutIn cells clock N N₁ h (child_of e) x → SameWeights (N' i) (e' ∷ rest) → child_of e' ≡ child_of e → ((j : ℕ) → (j ≡ i → ⊥) → N' j ≡ N₁ j)
      → (3 ≤ length (N₁ (child_of e)) → Afresh N' cells clock h e') → PutIn cells clock N N' (suc h) i x
  put_below h i {e} {rest} has once sound p has' child other afresh =
      let all = sound_has N cells clock (suc h) i has sound in
      let filled = (sound_head N cells clock h e rest all).0.filled in
      let used = sound_used N cells clock (suc h) i sound (omega (arith, same_length has)) in
      record {
        got = p.got;
        mended = climb_refresh cells clock i has once (λ j some. free_unmet N (suc h) i j used (p.were_free j some)) (sound_tail N cells clock (suc h) e rest all)
            p.mended has' child other (afresh (omega (arith, p.no_fewer)));
        were_free = p.were_free;
        no_fewer = omega (arith, same_length has, same_length has');
      }

-- after a change that put the free node f below i and no entry in or out, as a split does
pub put-after : {cells : ℕ} {clock : ℤ} {N N₁ N' : Nodes} {h i : ℕ} {x : Entry} (f : ℕ) → Mended cells clock N N₁ h i no_weight no_weight (λ j. is_node j f) no_node → Free N f → AllUsed N₁ h i
    → length (N i) ≤ length (N₁ i) → PutIn cells clock N₁ N' h i x → PutIn cells clock N N' h i x
put-after {N} {x} f m free all more p = record {
  got = λ j. is_node j f + p.got j;
  mended = mended_as (mended_after m p.mended) (λ φ. omega arith) (λ j. refl) (λ j z g. g);
  were_free = λ j some. by j some (ℕ_discrete j f);
  no_fewer = omega (arith, p.no_fewer);
}
  where
    by : (j : ℕ) → 0 < is_node j f + p.got j → Dec (j ≡ f) → Free N j
    by j some (yes q) = rw q free
    by j some (no ne) = free_back j m.moved all (p.were_free j (omega (arith, not_other ne)))
