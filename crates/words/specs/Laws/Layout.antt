-- Laws of nodes in a table and of entries in a node.
use Rattle.std.specs.Prelude.{◌≡◌, List, ℕ, ◌+◌, ◌-◌, ◌<◌, ◌≤◌, length, get_or, take, drop, set}
use Rattle.std.proofs.Common.{◌∙◌, arith}
use borrow.Rule.Slice.PartMut.{put_mid}
use Rattle.words.specs.Laws.Parts.{length_part, length-put, get_or_part, get_or_put_below, part-put, record_other, part_set_below, lent-part, lent_back}
use Rattle.words.specs.Layout.{header, node_words, own_words, entry_words, full_node, node_start, entry_offset, InTable, node_at, set_node, entry_at, set_entry}

module _ {A : Type 0} where
  -- ---- a node
  pub length-set_node : (w : List A) (i : ℕ) (n : List A) → InTable w i → length n ≡ node_words → length (set_node w i n) ≡ length w
  unfolding set_node
  length-set_node w i n = length-put w (node_start i) node_words n

  pub node_same : (w : List A) (i : ℕ) (n : List A) → InTable w i → length n ≡ node_words → node_at (set_node w i n) i ≡ n
  unfolding set_node node_at
  node_same w i n = part-put w (node_start i) node_words n

  pub node_other : (w : List A) (i : ℕ) (n : List A) (j : ℕ) → InTable w i → length n ≡ node_words → (j ≡ i → ⊥) → node_at (set_node w i n) j ≡ node_at w j
  unfolding set_node node_at
  node_other w i n j = record_other w header node_words i n j

  pub header_same : (w : List A) (i : ℕ) (n : List A) (j : ℕ) (d : A) → InTable w i → j < header → get_or (set_node w i n) j d ≡ get_or w j d
  unfolding set_node
  header_same w i n j d fits h = get_or_put_below w (node_start i) node_words n j d fits (omega arith)

  -- ---- a node past a store in the header
  pub node_past_header : (w : List A) (j : ℕ) (v : A) (i : ℕ) → j < header → node_at (set w j v) i ≡ node_at w i
  unfolding node_at
  node_past_header w j v i h = part_set_below w j v (node_start i) node_words (omega arith)

  -- ---- an entry
  module _ (n : List A) (k : ℕ) (long : length n ≡ node_words) (low : k < full_node) where
    fits : entry_offset k + entry_words ≤ length n
    fits = omega arith

    module _ (e : List A) (whole : length e ≡ entry_words) where
      pub length-set_entry : length (set_entry n k e) ≡ node_words
      unfolding set_entry
      length-set_entry = length-put n (entry_offset k) entry_words e fits whole ∙ long

      pub entry_same : entry_at (set_entry n k e) k ≡ e
      unfolding entry_at set_entry
      entry_same = part-put n (entry_offset k) entry_words e fits whole

      pub entry_other : (l : ℕ) → (l ≡ k → ⊥) → entry_at (set_entry n k e) l ≡ entry_at n l
      unfolding entry_at set_entry
      entry_other l = record_other n own_words entry_words k e l fits whole

      pub own_same : (j : ℕ) (d : A) → j < own_words → get_or (set_entry n k e) j d ≡ get_or n j d
      unfolding set_entry
      own_same j d h = get_or_put_below n (entry_offset k) entry_words e j d fits (omega arith)

  pub word_entry_at : (n : List A) (k j : ℕ) (d : A) → j < entry_words → get_or (entry_at n k) j d ≡ get_or n (entry_offset k + j) d
  unfolding entry_at
  word_entry_at n k j d = get_or_part n (entry_offset k) entry_words j d

  -- ---- node i lent as `&mut w[a..a + NODE_WORDS]`, from its start `a` on
  pub length_lent_node : (w : List A) (i a : ℕ) → a ≡ node_start i → InTable w i → length (take (a + node_words - a) (drop a w)) ≡ node_words
  length_lent_node w i a start fits = rw (lent-part w a node_words) (length_part w a node_words (omega arith))

  pub lent_is_node : (w : List A) (i a : ℕ) → a ≡ node_start i → take (a + node_words - a) (drop a w) ≡ node_at w i
  unfolding node_at
  lent_is_node w i a start = lent-part w a node_words ∙ rw start

  -- what holds of the node holds of the words lent
  pub lent_with : (holds : List A → Type 0) (w : List A) (i a : ℕ) → a ≡ node_start i → InTable w i → holds (node_at w i)
      → (length (take (a + node_words - a) (drop a w)) ≡ node_words) × holds (take (a + node_words - a) (drop a w))
  lent_with holds w i a start fits h = (length_lent_node w i a start fits, rw (lent_is_node w i a start) h)

  -- what `change` makes of the lent words stands in the node's place when they are back
  pub lent_node : (change : List A → List A) (w : List A) (i a : ℕ) (n : List A) → a ≡ node_start i
      → n ≡ change (take (a + node_words - a) (drop a w)) → put_mid a (a + node_words - a) w n ≡ set_node w i (change (node_at w i))
  unfolding node_at set_node
  lent_node change w i a n start made = lent_back w a node_words n ∙ rw (made, lent-part w a node_words, start)
