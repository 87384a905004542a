-- A fresh table: its nodes freed one after the other, then its header written.
use Rattle.std.specs.Prelude.{◌≡◌, refl, List, [], map, ℕ, ◌+◌, ◌≤◌, ◌<◌, ℤ, pos, length}
use Rattle.std.proofs.Common.{ap, ◌∙◌, not-suc-le-zero, arith, below_more}
use Rattle.std.proofs.Math.Logic.{inl}
use mathlib.Core.List.Memᴰ
use Rattle.std.proofs.Math.Dec.{lt→ltb}
use Rattle.std.specs.Int.Signed.{le_z_yes}
use Rattle.whole.specs.Lists.{no_repeat_none, no_repeat_cons}
use Rattle.words.specs.Layout.{node_start, node_at}
use Rattle.words.specs.Words.{nat_of}
use Rattle.words.specs.Laws.Words.{nat_of-pos}
use Rattle.node.specs.Inner.ChangeAt.{Changed}
use Rattle.node.specs.Entry.{Entry, entry_count_word, entry_count, entries_of, values_to, cell_of}
use Rattle.table.specs.Header.{capacity_word, capacity, clock, root_word, root, height_word, height, IsCapacity, nodes_for, words_for, entries_at}
use Rattle.table.specs.SoundTree.{leaves_of, nodes_of, TreeSound}
use Rattle.table.specs.Sound.{held, Sound}
use Rattle.table.specs.Fresh.{IsFresh}
use Rattle.table.specs.Inner.Headed.{Headed}
use Rattle.table.specs.Inner.FreshMade.{Freed}
use Rattle.table.specs.Laws.Headed.{same_behind}

pub freed_none : (nodes : ℕ) (w : List ℤ) → Freed nodes w 0 w
freed_none nodes w = record { free = λ j h. absurd (not-suc-le-zero h); as_long = refl; rest_kept = refl }

-- one node more
pub freed_more : {nodes : ℕ} {w : List ℤ} {i : ℕ} {v : List ℤ} → Freed nodes w i v → i < nodes → {es : List Entry} {u : List ℤ} → Changed v i es u → entry_count_word (node_at u i) ≡ pos 0
    → Freed nodes w (i + 1) u
freed_more {nodes} {i} {v} f low {u} c none = record {
  free = below_more (λ (j : ℕ). entry_count_word (node_at u j) ≡ pos 0) i (λ j lt. rw (c.others j (other j lt)) (f.free j lt)) none;
  as_long = c.same_length ∙ f.as_long;
  rest_kept = same_behind v u (node_start nodes) c.same_length (λ at h. c.behind at (omega arith)) ∙ f.rest_kept;
}
  where
    other : (j : ℕ) → j < i → j ≡ i → ⊥
    other j lt e = omega arith

-- ---- a table of free nodes whose root is node 0 and no inner node
nothing_in : (node : List ℤ) → entry_count_word node ≡ pos 0 → entries_of node ≡ []
unfolding entries_of entry_count nat_of values_to
nothing_in node e = rw e

module _ {cells : ℤ} {w u v : List ℤ} (c : IsCapacity cells) (enough : words_for (nat_of cells) ≤ length w) (f : Freed (nodes_for (nat_of cells)) w (nodes_for (nat_of cells)) u)
    (h : Headed u v) (capacity_is : capacity_word v ≡ cells) (clock_is : clock v ≡ pos 0) (root-word-is : root_word v ≡ pos 0) (height-word-is : height_word v ≡ pos 0) where
  root_is : root v ≡ 0
  root_is = ap nat_of root-word-is ∙ nat_of-pos 0

  height_is : height v ≡ 0
  height_is = ap nat_of height-word-is ∙ nat_of-pos 0

  as_long : length v ≡ length w
  as_long = h.same_length ∙ f.as_long

  free : (i : ℕ) → i < nodes_for (nat_of cells) → entry_count_word (node_at v i) ≡ pos 0
  free i lt = rw (h.nodes i) (f.free i lt)

  nothing : (i : ℕ) → i < nodes_for (nat_of cells) → entries_at v i ≡ []
  unfolding entries_at
  nothing i lt = nothing_in (node_at v i) (free i lt)

  no_leaves : leaves_of (entries_at v) (height v) (root v) ≡ []
  unfolding leaves_of
  no_leaves = rw (height_is, root_is) (nothing 0 (omega arith))

  none_held : held v ≡ []
  none_held = ap (map cell_of) no_leaves

  pub fresh_sound : Sound v
  unfolding leaves_of nodes_of TreeSound
  fresh_sound = record {
    capacity_in = rw capacity_is c;
    clock_in = rw clock_is (record { from = le_z_yes tt; to = le_z_yes tt });
    long_enough = rw (capacity_is, as_long) enough;
    root_in = rw root-word-is (record { from = le_z_yes tt; to = record { lt = lt→ltb 0 (nodes_for (capacity v)) (omega arith) } });
    height_in = rw height-word-is (le_z_yes tt);
    counts_in = λ i lt. rw (free i (rw capacity_is at lt)) (record { from = le_z_yes tt; to = le_z_yes tt });
    root_filled = λ tall. omega (arith, height_is);
    tree = rw (height_is, root_is) (λ d m. absurd (Memᴰ.not-nil (rw (nothing 0 (omega arith)) at m)));
    reached_once = rw height_is (no_repeat_cons (λ m. Memᴰ.not-nil m) no_repeat_none);
    free_or_reached = λ i lt. inl (free i (rw capacity_is at lt));
    few_cells = rw none_held (omega arith);
    identifiers_once = rw none_held no_repeat_none;
  }

  pub fresh_made : IsFresh cells w v
  fresh_made = record {
    sound = fresh_sound;
    capacity_is = capacity_is;
    clock_is = clock_is;
    none_held = none_held;
    as_long = as_long;
    rest_kept = same_behind u v (words_for (nat_of cells)) h.same_length (λ at far. h.behind at (omega arith)) ∙ f.rest_kept;
  }
