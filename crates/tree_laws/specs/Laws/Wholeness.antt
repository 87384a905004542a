-- A whole tree stays whole: as the clock goes on, through a change below the root, and where the root grows or gives way.
use Rattle.std.specs.Prelude.{◌≡◌, [], ◌∷◌, ℕ, suc, ◌+◌, ◌≤◌, ◌<◌, ℤ, length, ◌≤ℤ◌}
use Rattle.std.proofs.Common.{ap, not-suc-le-zero, arith}
use Rattle.node.specs.Entry.{Entry, child_of}
use Rattle.table.specs.Header.{nodes_for}
use Rattle.table.specs.SoundTree.{Nodes, leaves_of, nodes_of}
use Rattle.table.specs.Laws.Frame.{tree_later}
use Rattle.table.specs.Laws.Header.{node_below}
use Rattle.tree_laws.specs.Inner.Weights.{visits}
use Rattle.tree_laws.specs.Laws.Weights.{is_most, times_cons, times_none, same_as, sound_has, sound_head}
use Rattle.tree_laws.specs.Laws.Moved.{moved_once, moved_nodes}
use Rattle.tree_laws.specs.Laws.Regroup.{Afresh}
use Rattle.tree_laws.specs.Laws.Root.{grow_moved, grow_sound, way_moved, way_sound}
use Rattle.tree_laws.specs.Inner.Climb.{Mended}
use Rattle.tree_laws.specs.Inner.Used.{Free, used, Room}
use Rattle.tree_laws.specs.Laws.Used.{sound_used, free_unmet, free_node, met_below, used_all, moved-rest, room_root, two_left}
use Rattle.tree_laws.specs.Inner.Wholeness.{Whole}

module _ {cells : ℕ} {clock : ℤ} {N : Nodes} {h i : ℕ} (w : Whole cells clock N h i) where
  -- as the clock goes on
  pub whole_later : {clock' : ℤ} → clock ≤ℤ clock' → Whole cells clock' N h i
  whole_later later = record { once = w.once; sound = tree_later N cells later h i w.sound; root_in = w.root_in; rest_free = w.rest_free }

  -- after a change below the root that leaves it sound, and the nodes that go out free
  pub whole_mended : {N' : Nodes} {put out : (Entry → ℕ) → ℕ} {got gone : ℕ → ℕ} → Mended cells clock N N' h i put out got gone → ((j : ℕ) → 0 < gone j → Free N' j) → Whole cells clock N' h i
  whole_mended m freed = record { once = m.once; sound = m.sound; root_in = w.root_in; rest_free = moved-rest m.moved (nodes_for cells) w.rest_free freed }

  -- as many nodes are in use as are met, where the root has an entry
  pub whole_used : 0 < length (N i) → used N (nodes_for cells) ≡ length (nodes_of N h i)
  whole_used some =
      used_all N (nodes_for cells) h i w.once (sound_used N cells clock h i w.sound some) (met_below N cells clock h i w.sound w.root_in) w.rest_free

  -- no free node is met
  pub whole_fresh : 0 < length (N i) → (f : ℕ) → Free N f → visits f N h i ≡ 0
  whole_fresh some f free = free_unmet N h i f (sound_used N cells clock h i w.sound some) free

  -- with room for one more cell there is room below a root with two entries
  pub whole_room : length (leaves_of N h i) < cells → 2 ≤ length (N i) → Room cells (used N (nodes_for cells)) N h i
  whole_room few two = rw (whole_used (omega arith)) (room_root cells N h i few two)

  -- and with a root of four, a leaf or not, there are two free nodes
  pub whole_two : length (leaves_of N h i) < cells → 4 ≤ length (N i) → used N (nodes_for cells) + 2 ≤ nodes_for cells
  whole_two few four = rw (whole_used (omega arith)) (two_left cells clock N h i w.sound few four)

-- a new root above the old one
pub whole_grow : {cells : ℕ} {clock : ℤ} {N N' : Nodes} {h : ℕ} (r : ℕ) {e : Entry} → Whole cells clock N h (child_of e) → 0 < length (N (child_of e)) → Free N r → r < nodes_for cells
    → N' r ≡ e ∷ [] → ((j : ℕ) → (j ≡ r → ⊥) → N' j ≡ N j) → Afresh N' cells clock h e → Whole cells clock N' (suc h) r
whole_grow {cells} {clock} {N} {N'} {h} r {e} w some-entry free low only other afresh =
    let fresh = whole_fresh w some-entry r free in
    let m = grow_moved N N' h r only fresh other in
    record {
      once = moved_once m w.once (λ j some. whole_fresh w some-entry j (free_node N r free j some)) (λ j. is_most j r);
      sound = grow_sound N N' h r only fresh other cells clock w.sound afresh;
      root_in = low;
      rest_free = moved-rest m (nodes_for cells) w.rest_free (λ j none. absurd (not-suc-le-zero none));
    }

-- one node more is in use then
pub grown_used : {cells : ℕ} {clock : ℤ} {N N' : Nodes} {h : ℕ} (r : ℕ) {e : Entry} → Whole cells clock N h (child_of e) → 0 < length (N (child_of e)) → Whole cells clock N' (suc h) r
    → N' r ≡ e ∷ [] → Free N r → ((j : ℕ) → (j ≡ r → ⊥) → N' j ≡ N j) → used N' (nodes_for cells) ≡ used N (nodes_for cells) + 1
grown_used {cells} {N} {N'} {h} r {e} w some w' only free other =
    omega (
      arith,
      whole_used w some,
      whole_used w' (omega (arith, ap length only)),
      moved_nodes (r ∷ []) [] (λ j. omega (arith, times_cons j r [], times_none j)) (λ j. omega (arith, times_none j)) (grow_moved N N' h r only (whole_fresh w some r free) other),
    )

-- a root with one entry gives way to its child
pub whole_way : {cells : ℕ} {clock : ℤ} {N N' : Nodes} {h r : ℕ} {e : Entry} → Whole cells clock N (suc h) r → N r ≡ e ∷ [] → Free N' r → ((j : ℕ) → (j ≡ r → ⊥) → N' j ≡ N j) → Whole cells clock N' h (child_of e)
whole_way {cells} {clock} {N} {N'} {h} {r} {e} w only free other =
    let m = way_moved N N' h r only w.once other in
    let s = sound_head N cells clock h e [] (sound_has N cells clock (suc h) r (same_as only) w.sound) in
    record {
      once = λ j. omega (arith, m.met j, w.once j);
      sound = way_sound N N' h r only w.once other cells clock s.1;
      root_in = node_below s.0.child_in;
      rest_free = moved-rest m (nodes_for cells) w.rest_free (free_node N' r free);
    }
