-- Going down to put a cell in: what holds of the root, of each child, and after a full child was split.
use Rattle.std.specs.Prelude.{◌≡◌, refl, List, ◌∷◌, ◌++◌, ℕ, suc, ◌≤◌, ◌<◌, ℤ, length}
use mathlib.Core.List.Memᴰ
use Rattle.std.proofs.Common.{arith}
use Rattle.node.specs.Entry.{Entry, child_of}
use Rattle.table.specs.Header.{nodes_for}
use Rattle.table.specs.SoundTree.{Nodes, leaves_of}
use Rattle.tree_laws.specs.Inner.Weights.{SameWeights}
use Rattle.tree_laws.specs.Laws.Weights.{same_sym, same_length, same_entries, is_node, once_child, sound_has, sound_head}
use Rattle.tree_laws.specs.Inner.Moved.{no_weight, no_node}
use Rattle.tree_laws.specs.Laws.Regroup.{Afresh}
use Rattle.tree_laws.specs.Inner.Climb.{Mended}
use Rattle.tree_laws.specs.Laws.Climb.{split_mended}
use Rattle.tree_laws.specs.Inner.Used.{Free, used, Room}
use Rattle.tree_laws.specs.Laws.Used.{AllUsed, sound_used, free_unmet, used_got, room_free, room_down, room_split}
use Rattle.tree_laws.specs.Inner.PutIn.{PutIn}
use Rattle.tree_laws.specs.Laws.PutIn.{put-after}
use Rattle.tree_laws.specs.Inner.Wholeness.{Whole}
use Rattle.tree_laws.specs.Laws.Wholeness.{whole_room}
use Rattle.tree_laws.specs.Inner.Enter.{Enter}

-- the root of a table with room for one more cell
pub enter_root : {cells : ℕ} {clock : ℤ} {N : Nodes} {h i : ℕ} → Whole cells clock N h i → length (leaves_of N h i) < cells → (0 < h → 2 ≤ length (N i)) → Enter cells clock N h i
enter_root w few two = record { once = w.once; sound = w.sound; room = λ inner. whole_room w few (two inner) }

module _ {cells : ℕ} {clock : ℤ} {N : Nodes} {h i : ℕ} (enter : Enter cells clock N (suc h) i) where
  inner_room : Room cells (used N (nodes_for cells)) N (suc h) i
  inner_room = enter.room (omega arith)

  -- there is a free node
  pub enter_free : (j : ℕ) × (j < nodes_for cells) × Free N j
  enter_free = room_free cells clock N (suc h) i enter.sound inner_room

  module _ {e : Entry} {rest : List Entry} (has : SameWeights (N i) (e ∷ rest)) where
    -- a child is entered
    pub enter_child : Enter cells clock N h (child_of e)
    enter_child = record {
      once = once_child N h i has enter.once;
      sound = (sound_head N cells clock h e rest (sound_has N cells clock (suc h) i has enter.sound)).1;
      room = λ inner. room_down cells clock N h i enter.sound (same_entries (same_sym has) e (Memᴰ.head refl)) inner_room;
    }

    all_used : AllUsed N (suc h) i
    all_used = sound_used N cells clock (suc h) i enter.sound (omega (arith, same_length has))

    -- the child is split: some of its entries stay, for the entry a, and the others go to the free node f, for the entry b
    module _ {N' : Nodes} {a b : Entry} (f : ℕ) (free : Free N f) (low : f < nodes_for cells) (has' : SameWeights (N' i) (a ∷ b ∷ rest)) (child : child_of a ≡ child_of e) (child_new : child_of b ≡ f)
        (parted : SameWeights (N (child_of e)) (N' (child_of e) ++ N' f)) (other : (j : ℕ) → (j ≡ i → ⊥) → (j ≡ child_of e → ⊥) → (j ≡ f → ⊥) → N' j ≡ N j)
        (afresh-a : Afresh N' cells clock h a) (afresh-b : Afresh N' cells clock h b) where
      pub split_entered : Mended cells clock N N' (suc h) i no_weight no_weight (λ j. is_node j f) no_node
      split_entered =
          split_mended cells clock N N' h i f enter.once enter.sound has has' child child_new parted (free_unmet N (suc h) i f all_used free) other afresh-a afresh-b

      all_used' : AllUsed N' (suc h) i
      all_used' = sound_used N' cells clock (suc h) i split_entered.sound (omega (arith, same_length has'))

      -- node i is entered still
      pub enter_split : Enter cells clock N' (suc h) i
      enter_split = record {
        once = split_entered.once;
        sound = split_entered.sound;
        room = λ inner.
            rw (used_got f (nodes_for cells) split_entered.moved enter.once split_entered.once all_used all_used' free low)
            (room_split cells f split_entered.moved (omega (arith, same_length has, same_length has')) inner_room);
      }

      -- and what is put in then is put in over all
      pub put_split : {N'' : Nodes} {x : Entry} → PutIn cells clock N' N'' (suc h) i x → PutIn cells clock N N'' (suc h) i x
      put_split p = put-after f split_entered free all_used' (omega (arith, same_length has, same_length has')) p
