-- What holds of the full child of a node before it is parted, and after each step of the parting.
use Rattle.std.specs.Prelude.{◌≡◌, Some, Bool, List, [], ◌∷◌, ◌++◌, ℕ, suc, ◌^◌, ◌<◌, ℤ, length, get_or, set}
use Rattle.std.proofs.Common.{sym, ap, ◌∙◌, subst, append-nil, arith, length-set}
use mathlib.Core.List.Memᴰ
use Rattle.words.specs.Layout.{full_node, InTable}
use Rattle.node.specs.Entry.{Entry}
use Rattle.node.specs.Inner.ChangeAt.{Changed}
use Rattle.node.specs.Inner.Made.{InRangeAt}
use Rattle.tree_choice.specs.Parting.{marked, Parts}
use Rattle.table.specs.Header.{capacity, nodes_for, entries_at}
use Rattle.table.specs.SoundTree.{Nodes, is_leaf, TreeSound}
use Rattle.table.specs.Laws.Header.{node_below}
use Rattle.tree_laws.specs.Inner.Weights.{SameWeights, Once}
use Rattle.tree_laws.specs.Laws.Weights.{same_sym, same_trans, same_as, same_entries, sound_has, sound_head}
use Rattle.node.specs.Inner.Change.{without}
use Rattle.tree_laws.specs.Laws.Places.{at_weights}
use Rattle.tree_laws.specs.Laws.Regroup.{child_other}
use Rattle.tree_laws.specs.Inner.Used.{Free}
use Rattle.tree_nodes.specs.Inner.FirstFree.{FirstFree}
use Rattle.tree_nodes.specs.Laws.FirstFree.{found_free}
use Rattle.tree_nodes.specs.Inner.EntryAfresh.{entry_above, CanRefresh}
use Rattle.tree_nodes.specs.Laws.EntryAfresh.{above_same, sound_in_range}
use Rattle.tree_nodes.specs.Laws.Kept.{ample_in, ample_low, kept_then, changed_kept, changed_here, changed_others}
use Rattle.tree_nodes.specs.Inner.Shift.{Shifted}
use Rattle.tree_nodes.specs.Laws.Shift.{shifted_left}
use Rattle.tree_nodes.specs.Inner.Marked.{CanPart}
use Rattle.tree_nodes.specs.Inner.PartChild.{child_at, CanPartChild, PartedChild}

-- ---- a sound node and its entry k
module _ (N : Nodes) (cells : ℕ) (clock : ℤ) (h i k : ℕ) (sound : TreeSound N cells clock (suc h) i) (has : k < length (N i)) where
  at_k : SameWeights (N i) (get_or (N i) k [] ∷ without k (N i))
  at_k = at_weights (N i) k [] has

  pub child_low : child_at N i k < nodes_for cells
  child_low = node_below (sound_head N cells clock h (get_or (N i) k []) (without k (N i)) (sound_has N cells clock (suc h) i at_k sound)).0.child_in

  pub child_sound : TreeSound N cells clock h (child_at N i k)
  child_sound = (sound_head N cells clock h (get_or (N i) k []) (without k (N i)) (sound_has N cells clock (suc h) i at_k sound)).1

  pub child_apart : Once N (suc h) i → child_at N i k ≡ i → ⊥
  child_apart once = child_other N N cells clock h i once at_k

-- ---- the steps of a parting
module _ {w : List ℤ} {minute : ℤ} {h i k : ℕ} (can : CanPartChild w minute h i k) {full : ℕ} (is : full ≡ child_at (entries_at w) i k) where
  pub full_low : full < nodes_for (capacity w)
  full_low = rw is (child_low (entries_at w) (capacity w) minute h i k can.sound can.has)

  full_apart : full ≡ i → ⊥
  full_apart e = child_apart (entries_at w) (capacity w) minute h i k can.sound can.has can.once (sym is ∙ e)

  full_in_range : InRangeAt (is_leaf h) minute (entries_at w full)
  full_in_range = sound_in_range (entries_at w) (capacity w) minute h full can.is_minute (rw is (child_sound (entries_at w) (capacity w) minute h i k can.sound can.has))

  is_full : length (entries_at w full) ≡ full_node
  is_full = rw is can.full

  module _ {node : ℕ} (first : FirstFree (entries_at w) (nodes_for (capacity w)) (Some node)) where
    node_low : node < nodes_for (capacity w)
    node_low = (found_free first).0

    node_free : Free (entries_at w) node
    node_free = (found_free first).1

    node_apart : node ≡ i → ⊥
    node_apart e = omega (arith, can.has, ap length (subst (Free (entries_at w)) e node_free))

    pub can_part : {marks : List Bool} → Parts marks → CanPart w full node marks
    can_part parts = record { ample = can.ample; from_in = full_low; to_in = node_low; full = is_full; free = node_free; parts = parts }

    -- the marked entries have gone
    module _ {marks : List Bool} {v : List ℤ} (parts : Parts marks) (moved : Shifted (capacity w) w full node (marked marks) v) where
      node_i : entries_at v i ≡ entries_at w i
      node_i = moved.others i (λ (e : i ≡ full). full_apart (sym e)) (λ (e : i ≡ node). node_apart (sym e))

      parted_all : SameWeights (entries_at w full) (entries_at v full ++ entries_at v node)
      parted_all = same_trans (same_as (sym (append-nil (entries_at w full)) ∙ ap (λ (l : List Entry). entries_at w full ++ l) (sym node_free))) moved.all

      pub part_in_range : InRangeAt (is_leaf h) minute (entries_at v full)
      part_in_range e m = full_in_range e (same_entries (same_sym parted_all) e (Memᴰ.append_left (entries_at v node) m))

      new_in_range : InRangeAt (is_leaf h) minute (entries_at v node)
      new_in_range e m = full_in_range e (same_entries (same_sym parted_all) e (Memᴰ.append_right (entries_at v full) m))

      pub can_refresh : CanRefresh v i k full
      can_refresh = record {
        in_table = rw moved.kept.same_length (ample_in can.ample i can.node_in);
        low = rw node_i can.has;
        child_in_table = rw moved.kept.same_length (ample_in can.ample full full_low);
        child_low = ample_low can.ample full full_low;
      }

      -- the entry of the one part has been put in its place
      module _ {u : List ℤ} (put : Changed v i (set (entries_at v i) k (entry_above (entries_at v) (is_leaf h) minute full)) u) where
        pub new_in_table : InTable u node
        new_in_table = rw (put.same_length, moved.kept.same_length) (ample_in can.ample node node_low)

        pub new_low : node < 2 ^ 31
        new_low = ample_low can.ample node node_low

        pub new_can : InRangeAt (is_leaf h) minute (entries_at u node)
        new_can = rw (changed_others put node node_apart) new_in_range

        pub node_in_table : InTable u i
        node_in_table = rw (put.same_length, moved.kept.same_length) (ample_in can.ample i can.node_in)

        pub node_room : length (entries_at u i) < full_node
        node_room = rw (changed_here put, length-set, node_i) can.room

        -- and the entry of the other
        pub parted_child : {x : List ℤ} → Changed u i (entries_at u i ++ entry_above (entries_at u) (is_leaf h) minute node ∷ []) x → PartedChild w minute h i k full node x
        parted_child {x} behind =
            let here : entries_at x full ≡ entries_at v full = changed_others behind full full_apart ∙ changed_others put full full_apart in
            let there : entries_at x node ≡ entries_at v node = changed_others behind node node_apart ∙ changed_others put node node_apart in
            record {
              free = node_free;
              low = node_low;
              kept = kept_then moved.kept (kept_then (changed_kept put can.node_in) (changed_kept behind can.node_in));
              entries = rw (
                above_same (entries_at v) (entries_at x) (is_leaf h) minute full here,
                above_same (entries_at u) (entries_at x) (is_leaf h) minute node (changed_others behind node node_apart),
                ← node_i,
                ← changed_here put,
              ) (changed_here behind);
              parted = rw (here, there) parted_all;
              stay = record { filled = rw here (omega (arith, shifted_left moved, is_full, parts.stay)); room = rw here (omega (arith, shifted_left moved, is_full, parts.go)) };
              go = record { filled = rw there (omega (arith, moved.more, parts.go)); room = rw there (omega (arith, moved.more, ap length node_free, parts.stay)) };
              other = λ j p q r. changed_others behind j p ∙ changed_others put j p ∙ moved.others j q r;
            }
