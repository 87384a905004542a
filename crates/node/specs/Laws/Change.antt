-- A node's words changed: what each change makes of them, and what the node's entries and its count are then.
use Rattle.std.specs.Prelude.{◌≡◌, List, [], ◌∷◌, ◌++◌, ℕ, ◌+◌, ◌-◌, ◌*◌, ◌<◌, ◌≤◌, ℤ, pos, length, get_or, take, drop, set}
use Rattle.std.proofs.Math.Path.{sym, ap}
use Rattle.std.proofs.Common.{◌∙◌, add-one, le→leb, length-append, length-take, length-drop, ext_get_or, get_or-take, get_or-drop, get_or-append-add, get_or-set_other}
use Rattle.std.proofs.Math.Decide.{dec_lt, ℕ_discrete}
use native.Mathlib.Omega.{arith}
use Rattle.std.specs.Int.Signed.{le_z_yes}
use Rattle.std.proofs.Math.ListN.{length-set, get_or-append}
use Rattle.std.proofs.Math.Seq.{get_or-set_same}
use Rattle.words.specs.Parts.{part, put}
use Rattle.words.specs.Laws.Parts.{length_part, length-put, part-part, part_put_below, part_of_put, part_set_below}
use Rattle.words.specs.Layout.{node_words, entry_words, full_node, entry_offset, entry_at, set_entry}
use Rattle.words.specs.Laws.Layout.{length-set_entry, entry_same, entry_other, own_same}
use Rattle.words.specs.Words.{nat_of, with_count}
use Rattle.node.specs.Entry.{Entry, values_to, entry_count_word, IsCount, entry_count, entries_of}
use Rattle.node.specs.Laws.Entry.{first_of_same, take_first_of, count_fits, length-entries_of, entry_is}
use Rattle.node.specs.Inner.Change.{without, NodeChanged}

-- ---- what each change makes of the words
-- the entry e behind the others
unfoldable pub appended : List ℤ → Entry → List ℤ
appended node e = with_count (set_entry node (entry_count node) e) (entry_count node + 1)

-- how many words stand behind entry k
abbrev pub words_behind : List ℤ → ℕ → ℕ
words_behind node k = entry_words * (entry_count node - 1 - k)

-- without entry k: the words behind it stand in its place
unfoldable pub removed : List ℤ → ℕ → List ℤ
removed node k =
    with_count
    (put node (entry_offset k) (words_behind node k) (part node (entry_offset k + entry_words) (words_behind node k)))
    (entry_count node - 1)

is_count : (n : ℕ) → n ≤ full_node → IsCount (pos n)
is_count n few = record { from = le_z_yes (le→leb 0 n (omega arith)); to = le_z_yes (le→leb n full_node few) }

-- ---- a node that is counted anew
module _ (node : List ℤ) (n : ℕ) where
  length-with_count : length (with_count node n) ≡ length node
  unfolding with_count
  length-with_count = length-set node 0 (pos n)

  entry-with_count : (k : ℕ) → entry_at (with_count node n) k ≡ entry_at node k
  unfolding with_count entry_at
  entry-with_count k = part_set_below node 0 (pos n) (entry_offset k) entry_words (omega arith)

  module _ (long : length node ≡ node_words) where
    pub count_word-with_count : entry_count_word (with_count node n) ≡ pos n
    unfolding with_count
    count_word-with_count = get_or-set_same node 0 (pos n) (pos 0) (omega arith)

    module _ (few : n ≤ full_node) where
      count_with_count : entry_count (with_count node n) ≡ n
      unfolding entry_count nat_of
      count_with_count = rw count_word-with_count (omega arith)

      entries_with_count : entries_of (with_count node n) ≡ values_to (entry_at node) n
      unfolding entries_of
      entries_with_count = rw count_with_count (first_of_same (entry_at (with_count node n)) (entry_at node) n (λ k l. entry-with_count k))

    -- its first entries are left
    entries_kept : n ≤ entry_count node → entries_of (with_count node n) ≡ take n (entries_of node)
    unfolding entries_of
    entries_kept few = entries_with_count (omega (arith, count_fits node)) ∙ sym (take_first_of (entry_at node) n (entry_count node) few)

    pub keep_changes : n ≤ entry_count node → NodeChanged node (take n (entries_of node)) (with_count node n)
    keep_changes few = record {
      whole = length-with_count ∙ long;
      entries = entries_kept few;
      still_counted = λ was. rw count_word-with_count (is_count n (omega (arith, count_fits node)));
    }

-- ---- an entry put in another's place
module _ (node : List ℤ) (k : ℕ) (e : Entry) (long : length node ≡ node_words) (low : k < full_node) (whole : length e ≡ entry_words) where
  count_word-put : entry_count_word (set_entry node k e) ≡ entry_count_word node
  count_word-put = own_same node k long low e whole 0 (pos 0) (omega arith)

  count_put : entry_count (set_entry node k e) ≡ entry_count node
  unfolding entry_count
  count_put = rw count_word-put

entries_put : (node : List ℤ) (k : ℕ) (e : Entry) → length node ≡ node_words → k < entry_count node → length e ≡ entry_words
    → entries_of (set_entry node k e) ≡ set (entries_of node) k e
entries_put node k e long low whole = ext_get_or [] (entries_of (set_entry node k e)) (set (entries_of node) k e) many each
  where
    full : k < full_node
    full = omega (arith, count_fits node)

    same : entry_count (set_entry node k e) ≡ entry_count node
    same = count_put node k e long full whole

    many : length (entries_of (set_entry node k e)) ≡ length (set (entries_of node) k e)
    many = length-entries_of (set_entry node k e) ∙ same ∙ sym (length-set (entries_of node) k e ∙ length-entries_of node)

    at : (i : ℕ) → i < entry_count node → Dec (i ≡ k) → entry_at (set_entry node k e) i ≡ get_or (set (entries_of node) k e) i []
    at i l (yes is) =
        rw is (entry_same node k long full e whole ∙ sym (get_or-set_same (entries_of node) k e [] (omega (arith, length-entries_of node))))
    at i l (no other) = entry_other node k long full e whole i other ∙ sym (get_or-set_other (entries_of node) k i e [] other ∙ entry_is node i l)

    each : (i : ℕ) → i < length (entries_of (set_entry node k e)) → get_or (entries_of (set_entry node k e)) i [] ≡ get_or (set (entries_of node) k e) i []
    each i l =
        let here : i < entry_count (set_entry node k e) = omega (arith, length-entries_of (set_entry node k e)) in
        entry_is (set_entry node k e) i here ∙ at i (omega (arith, same)) (ℕ_discrete i k)

pub put_changes : (node : List ℤ) (k : ℕ) (e : Entry) → length node ≡ node_words → k < entry_count node → length e ≡ entry_words
    → NodeChanged node (set (entries_of node) k e) (set_entry node k e)
put_changes node k e long low whole =
    let full : k < full_node = omega (arith, count_fits node) in
    record { whole = length-set_entry node k long full e whole; entries = entries_put node k e long low whole; still_counted = λ was. rw (count_word-put node k e long full whole) was }

-- ---- an entry put behind the others
module _ (node : List ℤ) (e : Entry) (long : length node ≡ node_words) (room : entry_count node < full_node) (whole : length e ≡ entry_words) where
  put_behind : List ℤ
  put_behind = set_entry node (entry_count node) e

  long_behind : length put_behind ≡ node_words
  unfolding put_behind
  long_behind = length-set_entry node (entry_count node) long room e whole

  length-appended : length (appended node e) ≡ node_words
  unfolding appended put_behind
  length-appended = length-with_count put_behind (entry_count node + 1) ∙ long_behind

  count_word-appended : entry_count_word (appended node e) ≡ pos (entry_count node + 1)
  unfolding appended put_behind
  count_word-appended = count_word-with_count put_behind (entry_count node + 1) long_behind

  counted_appended : IsCount (entry_count_word (appended node e))
  counted_appended = rw count_word-appended (is_count (entry_count node + 1) (omega arith))

  entries_appended : entries_of (appended node e) ≡ entries_of node ++ e ∷ []
  unfolding appended put_behind entries_of values_to
  entries_appended =
      let n = entry_count node in
      let before = first_of_same (entry_at put_behind) (entry_at node) n (λ k l. entry_other node n long room e whole k (other k l)) in
      entries_with_count put_behind (n + 1) long_behind (omega arith) ∙ rw (add-one n, before, entry_same node n long room e whole)
    where
      other : (k : ℕ) → k < entry_count node → k ≡ entry_count node → ⊥
      other k l is = omega arith

  pub append_changes : NodeChanged node (entries_of node ++ e ∷ []) (appended node e)
  append_changes = record { whole = length-appended; entries = entries_appended; still_counted = λ was. counted_appended }

-- ---- an entry taken out
module _ (node : List ℤ) (k : ℕ) (long : length node ≡ node_words) (low : k < entry_count node) where
  moved : List ℤ
  moved = put node (entry_offset k) (words_behind node k) (part node (entry_offset k + entry_words) (words_behind node k))

  few : entry_count node ≤ full_node
  few = count_fits node

  fits : entry_offset k + entry_words + words_behind node k ≤ length node
  fits = omega (arith, few)

  long_behind' : length (part node (entry_offset k + entry_words) (words_behind node k)) ≡ words_behind node k
  long_behind' = length_part node (entry_offset k + entry_words) (words_behind node k) fits

  long_moved : length moved ≡ node_words
  unfolding moved
  long_moved = length-put node (entry_offset k) (words_behind node k) _ (omega (arith, fits)) long_behind' ∙ long

  length_removed : length (removed node k) ≡ node_words
  unfolding removed moved
  length_removed = length-with_count moved (entry_count node - 1) ∙ long_moved

  count_word-removed : entry_count_word (removed node k) ≡ pos (entry_count node - 1)
  unfolding removed moved
  count_word-removed = count_word-with_count moved (entry_count node - 1) long_moved

  count_removed : entry_count (removed node k) ≡ entry_count node - 1
  unfolding removed moved
  count_removed = count_with_count moved (entry_count node - 1) long_moved (omega (arith, few))

  counted_removed : IsCount (entry_count_word (removed node k))
  counted_removed = rw count_word-removed (is_count (entry_count node - 1) (omega (arith, few)))

  entry-removed : (i : ℕ) → entry_at (removed node k) i ≡ entry_at moved i
  unfolding removed moved
  entry-removed i = entry-with_count moved (entry_count node - 1) i

  -- the entries before it are as they were, those behind it have moved down by one
  entry_before : (i : ℕ) → i < k → entry_at moved i ≡ entry_at node i
  unfolding moved entry_at
  entry_before i l = part_put_below node (entry_offset k) (words_behind node k) _ (entry_offset i) entry_words (omega (arith, fits)) (omega arith)

  entry_behind : (i : ℕ) → k ≤ i → i + 1 < entry_count node → entry_at moved i ≡ entry_at node (i + 1)
  unfolding moved entry_at
  entry_behind i l h =
      let b = entry_words * (i - k) in
      let at : entry_offset i ≡ entry_offset k + b = omega arith in
      let from : entry_offset k + entry_words + b ≡ entry_offset (i + 1) = omega arith in
      let inside : b + entry_words ≤ words_behind node k = omega arith in
      let run = part node (entry_offset k + entry_words) (words_behind node k) in
      ap (λ (a : ℕ). part moved a entry_words) at
      ∙ part_of_put node (entry_offset k) (words_behind node k) run b entry_words (omega (arith, fits)) long_behind' inside
      ∙ part-part node (entry_offset k + entry_words) (words_behind node k) b entry_words inside
      ∙ ap (λ (a : ℕ). part node a entry_words) from

  entries_removed : entries_of (removed node k) ≡ without k (entries_of node)
  entries_removed = ext_get_or [] (entries_of (removed node k)) left many each
    where
      es : List Entry
      es = entries_of node

      left : List Entry
      left = without k es

      all : length es ≡ entry_count node
      all = length-entries_of node

      before : length (take k es) ≡ k
      before = simp length-take (omega (arith, all))

      many : length (entries_of (removed node k)) ≡ length left
      many = simp (length-append, length-take, length-drop) (omega (arith, length-entries_of (removed node k), count_removed, all))

      at : (i : ℕ) → i + 1 < entry_count node → Dec (i < k) → entry_at moved i ≡ get_or left i []
      at i l (yes low) =
          entry_before i low
          ∙ sym (get_or-append (take k es) (drop (k + 1) es) [] i (omega (arith, before)) ∙ get_or-take k es i [] low ∙ entry_is node i (omega arith))
      at i l (no high) =
          let place : length (take k es) + (i - k) ≡ i = omega (arith, before) in
          let later : k + 1 + (i - k) ≡ i + 1 = omega arith in
          entry_behind i (omega arith) l
          ∙ sym
          (ap (λ (j : ℕ). get_or left j []) (sym place)
          ∙ get_or-append-add (take k es) (drop (k + 1) es) (i - k) []
          ∙ get_or-drop (k + 1) es (i - k) []
          ∙ ap (λ (j : ℕ). get_or es j []) later
          ∙ entry_is node (i + 1) l)

      each : (i : ℕ) → i < length (entries_of (removed node k)) → get_or (entries_of (removed node k)) i [] ≡ get_or left i []
      each i l =
          let here : i < entry_count (removed node k) = omega (arith, length-entries_of (removed node k)) in
          entry_is (removed node k) i here ∙ entry-removed i ∙ at i (omega (arith, count_removed)) (dec_lt i k)

  pub remove_changes : NodeChanged node (without k (entries_of node)) (removed node k)
  remove_changes = record { whole = length_removed; entries = entries_removed; still_counted = λ was. counted_removed }
