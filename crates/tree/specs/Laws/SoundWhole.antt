-- A sound table has a whole tree, and a table with a whole tree and the rest of what soundness asks is sound.
use Rattle.std.specs.Prelude.{◌≡◌, ◌⊎◌, List, map, ℕ, ◌≤◌, ◌<◌, ℤ, length, ◌≤ℤ◌}
use Rattle.std.proofs.Math.Path.{sym}
use Rattle.std.proofs.Common.{ap, ◌∙◌, inl, inr, ⊎_elim, arith}
use Rattle.std.proofs.Math.Decide.{dec_lt}
use Rattle.std.proofs.Math.IntN.{pos}
use Rattle.whole.specs.Lists.{◌∈◌, NoRepeat}
use Rattle.whole.specs.Laws.Times.{in_times, times_in}
use Rattle.words.specs.Layout.{node_at}
use Rattle.words.specs.Words.{nat_of}
use Rattle.track.specs.Life.{identifier}
use Rattle.track.specs.Numbers.{IsMinute}
use Rattle.node.specs.Entry.{entry_count_word, entry_count, IsCount}
use Rattle.node.specs.Laws.Entry.{count_is}
use Rattle.table.specs.Header.{capacity_word, capacity, clock, root_word, root, height_word, height, IsCapacity, nodes_for, words_for, IsNode, entries_at}
use Rattle.table.specs.Sound.{Sound, reached, held}
use Rattle.table.specs.Laws.Header.{node_below}
use Rattle.tree_laws.specs.Inner.Weights.{visits}
use Rattle.tree_laws.specs.Laws.Weights.{once_no_repeat, no_repeat_once}
use Rattle.tree_laws.specs.Inner.Used.{Free}
use Rattle.tree_nodes.specs.Laws.FirstFree.{count_free, free_count}
use Rattle.tree_nodes.specs.Inner.Kept.{AllCounted}
use Rattle.tree_laws.specs.Inner.Wholeness.{Whole}

-- a node with a count is free exactly when the word for it is 0
module _ (w : List ℤ) (i : ℕ) (counted : IsCount (entry_count_word (node_at w i))) where
  pub zero_free : entry_count_word (node_at w i) ≡ pos 0 → Free (entries_at w) i
  unfolding nat_of
  zero_free z = let e : pos (entry_count (node_at w i)) ≡ pos 0 = sym (count_is (node_at w i) counted) ∙ z in count_free w i (ap nat_of e)

  pub free_zero : Free (entries_at w) i → entry_count_word (node_at w i) ≡ pos 0
  free_zero f = count_is (node_at w i) counted ∙ ap pos (free_count w i f)

abbrev pub WholeTree : List ℤ → Type 0
WholeTree w = Whole (capacity w) (clock w) (entries_at w) (height w) (root w)

pub sound_whole : {w : List ℤ} → Sound w → WholeTree w
sound_whole {w} s = record {
  once = no_repeat_once (entries_at w) (height w) (root w) s.reached_once;
  sound = s.tree;
  root_in = node_below s.root_in;
  rest_free = λ j lt unmet. ⊎_elim (zero_free w j (s.counts_in j lt)) (met j unmet) (s.free_or_reached j lt);
}
  where
    met : (j : ℕ) → visits j (entries_at w) (height w) (root w) ≡ 0 → j ∈ reached w → Free (entries_at w) j
    met j unmet m = absurd (omega (arith, in_times m))

-- what soundness asks besides the tree
pub record Framed (w : List ℤ) : Type 0 where
  pub capacity_in : IsCapacity (capacity_word w)
  pub clock_in : IsMinute (clock w)
  pub long_enough : words_for (capacity w) ≤ length w
  pub root_in : IsNode (capacity w) (root_word w)
  pub height_in : pos 0 ≤ℤ height_word w
  pub counts_in : AllCounted (capacity w) w
  pub root_filled : 0 < height w → 2 ≤ length (entries_at w (root w))
  pub few_cells : length (held w) ≤ capacity w
  pub identifiers_once : NoRepeat (map identifier (held w))

pub whole_sound : {w : List ℤ} → Framed w → WholeTree w → Sound w
whole_sound {w} f t = record {
  capacity_in = f.capacity_in;
  clock_in = f.clock_in;
  long_enough = f.long_enough;
  root_in = f.root_in;
  height_in = f.height_in;
  counts_in = f.counts_in;
  root_filled = f.root_filled;
  tree = t.sound;
  reached_once = once_no_repeat (entries_at w) (height w) (root w) t.once;
  free_or_reached = λ j lt. by j lt (dec_lt 0 (visits j (entries_at w) (height w) (root w)));
  few_cells = f.few_cells;
  identifiers_once = f.identifiers_once;
}
  where
    by : (j : ℕ) → j < nodes_for (capacity w) → Dec (0 < visits j (entries_at w) (height w) (root w)) → (entry_count_word (node_at w j) ≡ pos 0) ⊎ (j ∈ reached w)
    by j lt (yes met) = inr (times_in (reached w) met)
    by j lt (no ne) = inl (free_zero w j (f.counts_in j lt) (t.rest_free j lt (omega arith)))
