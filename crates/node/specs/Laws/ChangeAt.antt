-- A node's words changed in its table.
use Rattle.std.specs.Prelude.{◌≡◌, refl, List, ℕ, ◌+◌, ◌-◌, ℤ, pos, length, take, drop}
use Rattle.std.proofs.Common.{ap, ◌∙◌, arith}
use borrow.Rule.Slice.PartMut.{put_mid}
use Rattle.words.specs.Laws.Parts.{get_or_put_above}
use Rattle.words.specs.Layout.{node_words, node_start, InTable, node_at, set_node}
use Rattle.words.specs.Laws.Layout.{length-set_node, node_same, node_other, header_same, lent_is_node, lent_node, lent_with}
use Rattle.node.specs.Entry.{Entry, entry_count_word, entries_of}
use Rattle.node.specs.Inner.Change.{NodeChanged}
use Rattle.node.specs.Inner.ChangeAt.{Changed}

-- any change of a node's words, in its table
changed_to : (w : List ℤ) (i : ℕ) → InTable w i → {n : List ℤ} {es : List Entry} → NodeChanged (node_at w i) es n → Changed w i es (set_node w i n)
unfolding set_node
changed_to w i fits {n} c = record {
  entries = rw (node_same w i n fits c.whole) c.entries;
  still_counted = λ was. rw (node_same w i n fits c.whole) (c.still_counted was);
  others = λ j other. node_other w i n j fits c.whole other;
  before = λ at h. header_same w i n at (pos 0) fits h;
  behind = λ at h. get_or_put_above w (node_start i) node_words n at (pos 0) fits c.whole h;
  same_length = length-set_node w i n fits c.whole;
}

-- node i lent from its start a on, changed, and back in its place; `to` is what the change makes of the entries
module _ (w : List ℤ) (i a : ℕ) (start : a ≡ node_start i) (fits : InTable w i) where
  abbrev lent : List ℤ
  lent = take (a + node_words - a) (drop a w)

  back : (n : List ℤ) → put_mid a (a + node_words - a) w n ≡ set_node w i n
  back n = lent_node (λ m. n) w i a n start refl

  pub lent_changed : (to : List Entry → List Entry) {n : List ℤ} → NodeChanged lent (to (entries_of lent)) n → Changed w i (to (entries_of (node_at w i))) (put_mid a (a + node_words - a) w n)
  lent_changed to {n} c = rw (back n) (changed_to w i fits (rw (lent_is_node w i a start) at c))

  -- the count that stands there then
  pub lent_count : {n : List ℤ} {es : List Entry} {z : ℤ} → NodeChanged lent es n → entry_count_word n ≡ z → entry_count_word (node_at (put_mid a (a + node_words - a) w n) i) ≡ z
  lent_count {n} c is = ap (λ v. entry_count_word (node_at v i)) (back n) ∙ ap entry_count_word (node_same w i n fits c.whole) ∙ is

-- the same where the node is lent as a range of places, from its start to its end
module _ (w : List ℤ) (i from to : ℕ) (range : (from ≡ node_start i) × (to ≡ node_start i + node_words)) (fits : InTable w i) where
  abbrev in_range : List ℤ
  in_range = take (to - from) (drop from w)

  ends : to ≡ from + node_words
  ends = omega (arith, range)

  pub range_is_node : in_range ≡ node_at w i
  range_is_node = rw ends (lent_is_node w i from range.0)

  pub range_with : (holds : List ℤ → Type 0) → holds (node_at w i) → (length in_range ≡ node_words) × holds in_range
  range_with holds h = rw ends (lent_with holds w i from range.0 fits h)

  pub range_changed : (change : List Entry → List Entry) {n : List ℤ} → NodeChanged in_range (change (entries_of in_range)) n → Changed w i (change (entries_of (node_at w i))) (put_mid from (to - from) w n)
  range_changed change {n} c = rw ends (lent_changed w i from range.0 fits change (rw ends at c))

  pub range_count : {n : List ℤ} {es : List Entry} {z : ℤ} → NodeChanged in_range es n → entry_count_word n ≡ z → entry_count_word (node_at (put_mid from (to - from) w n) i) ≡ z
  range_count c is = rw ends (lent_count w i from range.0 fits (rw ends at c) is)
