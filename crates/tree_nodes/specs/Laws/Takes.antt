-- A cell that goes, taken out below a node: one law for each way through the code.
use Rattle.std.specs.Prelude.{◌≡◌, refl, Bool, true, false, ◌⊎◌, ℤ, length, get_or, drop}
use Rattle.std.proofs.Common.{sym, ◌∙◌, subst, arith, drop_of_length-le}
use Rattle.std.proofs.Math.Logic.{inl, inr, ⊎_elim}
use mathlib.Core.List.Memᴰ
use mathlib.Core.List.{List, [], ◌∷◌, flat_map}
use Prim.Native.Nat.{ℕ, zero, suc, ◌+◌, ◌≤◌, ◌<◌}
use Rattle.whole.specs.Laws.Tells.{true_not_false}
use Rattle.whole.specs.Lists.{◌∈◌}
use Rattle.node.specs.Entry.{Entry, cell_of, child_of}
use Rattle.node.specs.Inner.ChangeAt.{Changed}
use Rattle.table.specs.Header.{capacity, entries_at}
use Rattle.table.specs.SoundTree.{Nodes, leaves_of}
use Rattle.table.specs.Inner.Scan.{leaves_in, SoundIn}
use Rattle.table.specs.Laws.Scan.{leaves_in_lem}
use Rattle.tree_laws.specs.Inner.Weights.{SameWeights}
use Rattle.tree_laws.specs.Laws.Weights.{once_child, sound_has, sound_head, sound_tail}
use Rattle.node.specs.Inner.Change.{without}
use Rattle.tree_laws.specs.Laws.Places.{at_weights}
use Rattle.tree_laws.specs.Laws.Moved.{fresh_none, down_node}
use Rattle.tree_laws.specs.Laws.Climb.{climb_once, climb_rest}
use Rattle.tree_laws.specs.Inner.TakeOut.{TakeOut}
use Rattle.tree_laws.specs.Laws.TakeOut.{out_leaf, out_left}
use Rattle.table.specs.Laws.AtNode.{entries_left}
use Rattle.tree_nodes.specs.Laws.Kept.{kept_then, kept-capacity, kept_ample, changed_kept, changed_here, changed_others}
use Rattle.tree_nodes.specs.Inner.PartChild.{child_at}
use Rattle.tree_nodes.specs.Laws.PartChild.{child_low, child_sound}
use Rattle.tree_nodes.specs.Inner.Mend.{CanMend, Mends}
use Rattle.tree_laws.specs.Inner.Goes.{Goes}
use Rattle.tree_nodes.specs.Inner.Takes.{CanTake, Taken, NoneGoes, Takes}

-- ---- what lies below entries: below none of them nothing, below the first and below the others
module _ (N : Nodes) where
  none_below : (h : ℕ) {x : Entry} → x ∈ leaves_in N h [] → ⊥
  unfolding leaves_in flat_map
  none_below zero m = Memᴰ.not-nil m
  none_below (suc h) m = Memᴰ.not-nil m

  first_or_rest : (h : ℕ) (e : Entry) (es : List Entry) {x : Entry} → x ∈ leaves_in N h (e ∷ es) → x ∈ leaves_in N h (e ∷ []) ⊎ x ∈ leaves_in N h es
  unfolding leaves_in flat_map
  first_or_rest zero e es m = ⊎_elim (λ q. inl (Memᴰ.head q)) inr (Memᴰ.cases_cons m)
  first_or_rest (suc h) e es m = ⊎_elim (λ n. inl (Memᴰ.append_left [] n)) inr (Memᴰ.append_cases (leaves_of N h (child_of e)) m)

  leaf_itself : {e x : Entry} → x ∈ leaves_in N zero (e ∷ []) → x ≡ e
  unfolding leaves_in
  leaf_itself m = Memᴰ.eq_of_singleton m

  child_leaves : (h : ℕ) (e : Entry) {x : Entry} → x ∈ leaves_in N (suc h) (e ∷ []) → x ∈ leaves_in N h (N (child_of e))
  unfolding leaves_in flat_map
  child_leaves h e m = rw (← leaves_in_lem N h (child_of e)) (⊎_elim (λ n. n) (λ n. absurd (Memᴰ.not-nil n)) (Memᴰ.append_cases (leaves_of N h (child_of e)) m))

-- ---- the ways through the code
module _ {w : List ℤ} {minute id : ℤ} {h i k : ℕ} where
  -- no entry is left
  pub takes_end : length (entries_at w i) ≤ k → Takes w minute id h i k false w
  takes_end few = record {
    none = λ e. (refl, λ x m. absurd (none_below (entries_at w) h (rw (drop_of_length-le (entries_at w i) few) at m)));
    one = λ e. true_not_false (sym e);
  }

  -- below entry k none goes
  pub takes_next : {r : Bool} {v : List ℤ} → k < length (entries_at w i) → NoneGoes (entries_at w) minute id h (get_or (entries_at w i) k [] ∷ [])
      → Takes w minute id h i (k + 1) r v → Takes w minute id h i k r v
  takes_next low here rest = record {
    none = λ e. let t = rest.none e in
        (t.0, λ x m goes. ⊎_elim (λ n. here x n goes) (λ n. t.1 x n goes) (first_or_rest (entries_at w) h (get_or (entries_at w i) k []) (drop (k + 1) (entries_at w i)) (rw (entries_left w i k low) at m)));
    one = rest.one;
  }

  pub takes_one : {v : List ℤ} → Taken w minute id h i v → Takes w minute id h i k true v
  takes_one t = record { none = λ e. true_not_false e; one = λ e. t }

-- a leaf's entry stays
pub leaf_stays : (w : List ℤ) {minute id : ℤ} (i k : ℕ) → (Goes minute id (cell_of (get_or (entries_at w i) k [])) → ⊥) → NoneGoes (entries_at w) minute id zero (get_or (entries_at w i) k [] ∷ [])
leaf_stays w {minute} {id} i k stays x m goes = stays (subst (λ (e : Entry). Goes minute id (cell_of e)) (leaf_itself (entries_at w) m) goes)

-- it goes
pub leaf_goes : {w : List ℤ} {minute id : ℤ} {i k : ℕ} {v : List ℤ} → CanTake w minute zero i → k < length (entries_at w i) → Goes minute id (cell_of (get_or (entries_at w i) k []))
    → Changed w i (without k (entries_at w i)) v → Taken w minute id zero i v
leaf_goes {w} {minute} {i} {k} {v} can low goes changed =
    let less : SameWeights (entries_at w i) (get_or (entries_at w i) k [] ∷ entries_at v i) = rw (changed_here changed) (at_weights (entries_at w i) k [] low) in
    record {
      entry = get_or (entries_at w i) k [];
      goes = goes;
      kept = changed_kept changed can.node_in;
      out = out_leaf (capacity w) minute (entries_at w) (entries_at v) i can.once can.sound less (changed_others changed);
    }

module _ {w : List ℤ} {minute : ℤ} {h i k : ℕ} (can : CanTake w minute (suc h) i) (low : k < length (entries_at w i)) where
  abbrev N : Nodes
  N = entries_at w

  abbrev cells : ℕ
  cells = capacity w

  has : SameWeights (entries_at w i) (get_or (entries_at w i) k [] ∷ without k (entries_at w i))
  has = at_weights (N i) k [] low

  -- a child
  pub can_take_child : {child : ℕ} → child ≡ child_at (entries_at w) i k → CanTake w minute h child
  can_take_child {child} is = record {
    ample = can.ample;
    is_minute = can.is_minute;
    node_in = rw is (child_low N cells minute h i k can.sound low);
    once = rw is (once_child N h i has can.once);
    sound = rw is (child_sound N cells minute h i k can.sound low);
    inner = λ some. rw is (omega (arith, (sound_head N cells minute h (get_or (N i) k []) (without k (N i)) (sound_has N cells minute (suc h) i has can.sound)).0.filled));
  }

  pub child_stays : {id : ℤ} {child : ℕ} → child ≡ child_at (entries_at w) i k → NoneGoes (entries_at w) minute id h (drop 0 (entries_at w child)) → NoneGoes (entries_at w) minute id (suc h) (get_or (entries_at w i) k [] ∷ [])
  child_stays is none x m goes = none x (rw is (child_leaves N h (get_or (N i) k []) m)) goes

  -- below it one was taken out: node i can be mended
  module _ {id : ℤ} {child : ℕ} (is : child ≡ child_at (entries_at w) i k) {v : List ℤ} (t : Taken w minute id h child v) where
    out : TakeOut (capacity w) minute (entries_at w) (entries_at v) h (child_at (entries_at w) i k) t.entry
    out = rw is at t.out

    same_cells : capacity v ≡ capacity w
    same_cells = kept-capacity t.kept

    node_same : entries_at v i ≡ entries_at w i
    node_same = down_node i has can.once (fresh_none N (suc h) i) out.mended.moved

    rest_sound_before : SoundIn (entries_at w) (capacity w) minute (suc h) (without k (entries_at w i))
    rest_sound_before = sound_tail N cells minute (suc h) (get_or (N i) k []) (without k (N i)) (sound_has N cells minute (suc h) i has can.sound)

    pub can_mend : CanMend v minute h i k
    can_mend = record {
      ample = kept_ample t.kept can.ample;
      is_minute = can.is_minute;
      node_in = rw same_cells can.node_in;
      once = climb_once cells minute i has can.once (fresh_none N (suc h) i) rest_sound_before out.mended;
      has = rw node_same low;
      two = rw node_same (can.inner (omega arith));
      child_in = rw (same_cells, node_same) (child_low N cells minute h i k can.sound low);
      child_sound = rw (same_cells, node_same) out.mended.sound;
      child_left = rw node_same (out_left cells minute N (entries_at v) (entries_at v) h i has can.once can.sound out);
      rest_sound = rw (same_cells, node_same) (climb_rest cells minute i has can.once (fresh_none N (suc h) i) rest_sound_before out.mended);
    }

    pub taken_below : {u : List ℤ} → Mends v minute h i k u → Taken w minute id (suc h) i u
    taken_below m = record {
      entry = t.entry;
      goes = t.goes;
      kept = kept_then t.kept (rw same_cells at m.kept);
      out = rw same_cells at (m.out N t.entry (rw node_same has) can.once (rw same_cells can.sound) (rw (same_cells, node_same) out));
    }

-- ---- the loop over a node's entries: below those from k up to entry `at` none goes, and nothing has changed
pub record TakesLeft (w : List ℤ) (minute id : ℤ) (h i k at : ℕ) (v : List ℤ) : Type 0 where
  pub same : v ≡ w
  pub rest : (r : Bool) (u : List ℤ) → Takes w minute id h i at r u → Takes w minute id h i k r u

pub left_none : {w : List ℤ} {minute id : ℤ} {h i k : ℕ} → TakesLeft w minute id h i k k w
left_none = record { same = refl; rest = λ r u t. t }

module _ {w : List ℤ} {minute id : ℤ} {h i k at : ℕ} {v : List ℤ} (l : TakesLeft w minute id h i k at v) where
  pub left_end : length (entries_at w i) ≤ at → Takes w minute id h i k false v
  left_end few = rw l.same (l.rest false w (takes_end few))

  -- below entry `at` none goes, or one is taken out
  pub left_next : {u : List ℤ} → u ≡ v → at < length (entries_at w i) → NoneGoes (entries_at w) minute id h (get_or (entries_at w i) at [] ∷ []) → TakesLeft w minute id h i k (at + 1) u
  left_next e low here = record { same = e ∙ l.same; rest = λ r u t. l.rest r u (takes_next low here t) }

  pub left_one : {u : List ℤ} → Taken w minute id h i u → Takes w minute id h i k true u
  left_one t = l.rest true _ (takes_one t)
