-- The pass over a node of the table: what it needs stays so from entry to entry, and how its loop goes on and ends.
use Rattle.std.specs.Prelude.{◌≡◌, refl, Bool, true, false, not, List, [], ◌∷◌, Option, Some, None, ℕ, ◌+◌, ◌-◌, ◌≤◌, ◌<◌, ℤ, length, get_or, set, drop}
use Rattle.std.proofs.Common.{ap, ◌∙◌, arith, length-set, drop_of_length-le, get_or-set_same, get_or-set_other}
use Rattle.std.proofs.Math.Decide.{ℕ_discrete}
use Rattle.whole.specs.Laws.Tells.{not_false}
use Rattle.words.specs.Layout.{node_at, entry_at}
use Rattle.node.specs.Entry.{Entry, child_of, entry_count, entries_of}
use Rattle.node.specs.Laws.Entry.{entries_next, length-entries_of}
use Rattle.table.specs.Header.{nodes_for, entries_at}
use Rattle.table.specs.SoundTree.{Nodes}
use Rattle.table.specs.Laws.Header.{node_below}
use Rattle.table.specs.Inner.Scan.{EntryTaken, Entered, NodeCounted, PassOutcome}
use Rattle.table.specs.Laws.Scan.{way_none, way_untaken, way_taken, way_unentered, way_entered_bad, way_entered}
use Rattle.table.specs.Inner.Ready.{Ready}

-- ---- it is kept
marked_low : (marks : List ℕ) (c : ℕ) → c < length marks → ((j : ℕ) → get_or marks j 0 ≤ 1) → (j : ℕ) → get_or (set marks c 1) j 0 ≤ 1
marked_low marks c lt low j = by (ℕ_discrete j c)
  where
    by : Dec (j ≡ c) → get_or (set marks c 1) j 0 ≤ 1
    by (yes e) = rw (e, get_or-set_same marks c 1 0 lt) (omega arith)
    by (no ne) = rw (get_or-set_other marks c j 1 0 ne) (low j)

pub ready_taken : {w : List ℤ} {cells node : ℕ} {marks keys : List ℕ} {m : ℕ} {d : Entry} {r : Bool} {keys₁ : List ℕ} → Ready w cells node marks keys m → EntryTaken cells d keys m r keys₁ → not r ≡ false
    → Ready w cells node marks keys₁ (m + 1)
ready_taken {keys} {keys₁} y t f =
    let g = t.taken (not_false f) in
    let l : length keys₁ ≡ length keys = ap length g.2 ∙ simp length-set in
    record { long = y.long; node_in = y.node_in; marks_long = y.marks_long; keys_long = omega (arith, y.keys_long); low = y.low; room = omega (arith, g.1) }

module _ {w : List ℤ} {N : Nodes} {C : ℕ → Type 0} {cells : ℕ} {clock : ℤ} {node : ℕ} {marks keys : List ℕ} {m : ℕ} (y : Ready w cells node marks keys m) where
  pub child_marked : {h : ℕ} {d : Entry} {r : Bool} {marks₁ : List ℕ} → Entered N C cells clock h d marks r marks₁ → not r ≡ false → child_of d < length marks
  child_marked t f = let g = t.entered (not_false f) in omega (arith, node_below g.0.child_in, y.marks_long)

  pub ready_entered : {h : ℕ} {d : Entry} {r : Bool} {marks₁ : List ℕ} {c : ℕ} → Entered N C cells clock h d marks r marks₁ → not r ≡ false → c ≡ child_of d → Ready w cells c marks₁ keys m
  ready_entered {h} {d} {r} {marks₁} {c} t f e =
      let g = t.entered (not_false f) in
      let l : length marks₁ ≡ length marks = ap length g.3 ∙ simp length-set in
      record {
        long = y.long;
        node_in = omega (arith, node_below g.0.child_in);
        marks_long = omega (arith, y.marks_long);
        keys_long = y.keys_long;
        low = λ j. rw g.3 (marked_low marks (child_of d) (child_marked t f) y.low j);
        room = y.room;
      }

  pub ready_passed : {h : ℕ} {es : List Entry} {m₁ : ℕ} {node₁ : ℕ} {marks₁ keys₁ : List ℕ} → node₁ < nodes_for cells → PassOutcome N C cells clock h es marks keys m (Some m₁) marks₁ keys₁ → Ready w cells node₁ marks₁ keys₁ m₁
  ready_passed {m₁} n o =
      let p = o.pass m₁ refl in
      record {
        long = y.long;
        node_in = n;
        marks_long = omega (arith, y.marks_long, o.marks_kept);
        keys_long = omega (arith, y.keys_long, o.keys_kept);
        low = λ j. omega (arith, p.0.once j, p.1.marked j);
        room = omega (arith, p.0.room, p.1.more);
      }

-- ---- the next entry of a node
pub next_entry : (w : List ℤ) (node k : ℕ) (n : List ℤ) (c : ℕ) → n ≡ node_at w node → c ≡ entry_count n → k < c → drop k (entries_at w node) ≡ entry_at n k ∷ drop (k + 1) (entries_at w node)
unfolding entries_at
next_entry w node k n c e f lt = rw (← e) (entries_next n k (omega arith))

pub no_entry : (w : List ℤ) (node k : ℕ) (n : List ℤ) (c : ℕ) → n ≡ node_at w node → c ≡ entry_count n → c ≤ k → drop k (entries_at w node) ≡ []
unfolding entries_at
no_entry w node k n c e f le = rw (← e) (drop_of_length-le (entries_of n) {i = k} (omega (arith, length-entries_of n)))

-- ---- the loop over a node's entries: where the first k are passed, what a pass over those that are left comes to is what
-- the pass over all of them comes to
pub record EntriesLeft (w : List ℤ) (cells : ℕ) (clock : ℤ) (h node : ℕ) (marks₀ keys₀ : List ℕ) (m₀ k : ℕ) (marks keys : List ℕ) (m : ℕ) : Type 0 where
  pub ready : Ready w cells node marks keys m
  pub marks_kept : length marks ≡ length marks₀
  pub keys_kept : length keys ≡ length keys₀
  pub rest : (r : Option ℕ) (marks' keys' : List ℕ) → PassOutcome (entries_at w) (NodeCounted w) cells clock h (drop k (entries_at w node)) marks keys m r marks' keys'
      → PassOutcome (entries_at w) (NodeCounted w) cells clock h (entries_at w node) marks₀ keys₀ m₀ r marks' keys'

pub left_none : {w : List ℤ} {cells : ℕ} {clock : ℤ} {h node : ℕ} {marks keys : List ℕ} {m : ℕ} → Ready w cells node marks keys m → EntriesLeft w cells clock h node marks keys m 0 marks keys m
left_none y = record { ready = y; marks_kept = refl; keys_kept = refl; rest = λ r marks' keys' o. o }

module _ {w : List ℤ} {cells : ℕ} {clock : ℤ} {h node : ℕ} {marks₀ keys₀ : List ℕ} {m₀ k : ℕ} {marks keys : List ℕ} {m : ℕ} (l : EntriesLeft w cells clock h node marks₀ keys₀ m₀ k marks keys m) {n : List ℤ} {c : ℕ} (is : n ≡ node_at w node) (many : c ≡ entry_count n) where
  pub left_all : c ≤ k → PassOutcome (entries_at w) (NodeCounted w) cells clock h (entries_at w node) marks₀ keys₀ m₀ (Some m) marks keys
  left_all le = l.rest _ _ _ (way_none h _ marks keys m (no_entry w node k n c is many le) l.ready.low l.ready.room)

  module _ (lt : k < c) {r : Bool} where
    module _ (z : h ≡ 0) {keys₁ : List ℕ} (t : EntryTaken cells (entry_at n k) keys m r keys₁) where
      pub left_untaken : not r ≡ true → PassOutcome (entries_at w) (NodeCounted w) cells clock h (entries_at w node) marks₀ keys₀ m₀ None marks keys₁
      left_untaken f = l.rest _ _ _ (way_untaken h _ _ _ marks keys m _ _ z (next_entry w node k n c is many lt) t f)

      pub left_taken : not r ≡ false → EntriesLeft w cells clock h node marks₀ keys₀ m₀ (k + 1) marks keys₁ (m + 1)
      left_taken f = record {
        ready = ready_taken l.ready t f;
        marks_kept = l.marks_kept;
        keys_kept = ap length (t.taken (not_false f)).2 ∙ length-set keys m _ ∙ l.keys_kept;
        rest = λ q marks' keys' o. l.rest q marks' keys' (way_taken h _ _ _ marks keys m _ _ q marks' keys' z (next_entry w node k n c is many lt) t f l.ready.keys_long o);
      }

    module _ (z : h ≡ 0 → ⊥) {marks₁ : List ℕ} (t : Entered (entries_at w) (NodeCounted w) cells clock (h - 1) (entry_at n k) marks r marks₁) where
      pub left_unentered : not r ≡ true → PassOutcome (entries_at w) (NodeCounted w) cells clock h (entries_at w node) marks₀ keys₀ m₀ None marks₁ keys
      left_unentered f = l.rest _ _ _ (way_unentered h _ _ _ marks keys m _ _ z (next_entry w node k n c is many lt) t f)

      module _ (f : not r ≡ false) {b : ℕ} (child : b ≡ child_of (entry_at n k)) {q : Option ℕ} {marks₂ keys₂ : List ℕ} (o : PassOutcome (entries_at w) (NodeCounted w) cells clock (h - 1) (entries_at w b) marks₁ keys m q marks₂ keys₂) where
        pub left_bad : q ≡ None → PassOutcome (entries_at w) (NodeCounted w) cells clock h (entries_at w node) marks₀ keys₀ m₀ None marks₂ keys₂
        left_bad e = l.rest _ _ _ (way_entered_bad h _ _ _ marks keys m _ _ _ _ z (next_entry w node k n c is many lt) t f (child_marked l.ready t f) (rw (child, e) at o))

        pub left_passed : {m₂ : ℕ} → q ≡ Some m₂ → EntriesLeft w cells clock h node marks₀ keys₀ m₀ (k + 1) marks₂ keys₂ m₂
        left_passed {m₂} e = record {
          ready = ready_passed (ready_entered l.ready t f child) l.ready.node_in (rw e at o);
          marks_kept = o.marks_kept ∙ ap length (t.entered (not_false f)).3 ∙ length-set marks _ 1 ∙ l.marks_kept;
          keys_kept = o.keys_kept ∙ l.keys_kept;
          rest = λ s marks' keys' p. l.rest s marks' keys' (way_entered h _ _ _ marks keys m m₂ _ _ _ _ s marks' keys' z (next_entry w node k n c is many lt) t f (child_marked l.ready t f) (rw (child, e) at o) p);
        }
