-- What the soundness test sees of one entry: its child, its stamp, the stamps beneath it; and one law for each way through the code.
use Rattle.std.specs.Prelude.{◌≡◌, refl, Bool, List, [], ℕ, zero, suc, ◌+◌, ◌≤◌, ◌<◌, eqb, leb, ℤ, length, get_or, ◌≤ℤ◌, ◌<ℤ◌}
use Rattle.std.proofs.Common.{subst, arith, not-suc-le-zero, below_more, ne_eqb, leb→le, le→leb}
use Rattle.std.specs.Int.Signed.{clash_ℤ}
use Rattle.whole.specs.Laws.Lists.{in_at}
use Rattle.whole.specs.Tells.{Tells}
use Rattle.whole.specs.Laws.Tells.{tells_as}
use Rattle.words.specs.Layout.{entry_at, node_at, InTable}
use Rattle.words.specs.Words.{nat_of}
use Rattle.node.specs.Entry.{Entry, child_word, child_of, stamp_of, entry_count, entries_of}
use Rattle.node.specs.Laws.Entry.{entry_is, entry_in, length-entries_of}
use Rattle.node.specs.WorkedOut.{WorkedOut}
use Rattle.table.specs.Header.{IsNode, words_for, entries_at}
use Rattle.table.specs.Laws.Header.{node_below}
use Rattle.table.specs.SoundTree.{Nodes, is_leaf, NotBefore, EntrySound}
use Rattle.table.specs.Inner.ScanParts.{ChildSound, NoneAfter, StampSound}

pub entry_sound : (N : Nodes) (cells : ℕ) (clock : ℤ) (h : ℕ) (e : Entry) → ChildSound N cells e → StampSound h clock e (N (child_of e)) → WorkedOut (is_leaf h) e (N (child_of e))
    → EntrySound N cells clock h e
entry_sound N cells clock h e c s k = record { child_in = c.child_in; filled = c.filled; worked_out = k; stamp_in = s.stamp_in; stamped = s.stamped; not_before = by h s.not_before }
  where
    by : (h : ℕ) → ((h ≡ 0 → ⊥) → NoneAfter (N (child_of e)) (stamp_of e)) → NotBefore N h e
    by zero f = tt
    by (suc h) f = (f (λ z. not_zero z)).none
      where
        not_zero : suc h ≡ 0 → ⊥
        not_zero z = omega arith

pub child_sound : {N : Nodes} {cells : ℕ} {clock : ℤ} {h : ℕ} {e : Entry} → EntrySound N cells clock h e → ChildSound N cells e
child_sound s = record { child_in = s.child_in; filled = s.filled }

pub stamp_sound : {N : Nodes} {cells : ℕ} {clock : ℤ} {h : ℕ} {e : Entry} → EntrySound N cells clock h e → StampSound h clock e (N (child_of e))
stamp_sound {N} {h} {e} s = record { stamp_in = s.stamp_in; stamped = s.stamped; not_before = by h s.not_before }
  where
    by : (h : ℕ) → NotBefore N h e → (h ≡ 0 → ⊥) → NoneAfter (N (child_of e)) (stamp_of e)
    by zero b z = absurd (z refl)
    by (suc h) b z = record { none = b }

-- ---- the ways through the code
-- the first k of the entries have no stamp after `last`
pub record NoneBefore (es : List Entry) (k : ℕ) (last : ℤ) : Type 0 where
  pub none : (j : ℕ) → j < k → stamp_of (get_or es j []) ≤ℤ last

pub none_before_first : (es : List Entry) (last : ℤ) → NoneBefore es 0 last
none_before_first es last = record { none = λ j h. absurd (not-suc-le-zero h) }

pub none_more : (node : List ℤ) (k : ℕ) (last s : ℤ) → NoneBefore (entries_of node) k last → k < entry_count node → s ≡ stamp_of (entry_at node k) → s ≤ℤ last → NoneBefore (entries_of node) (k + 1) last
none_more node k last s b lt e h = record {
  none = below_more (λ (j : ℕ). stamp_of (get_or (entries_of node) j []) ≤ℤ last) k b.none (rw (entry_is node k lt, ← e) h);
}

pub none_all : (node : List ℤ) (k : ℕ) (last : ℤ) → NoneBefore (entries_of node) k last → entry_count node ≤ k → NoneAfter (entries_of node) last
none_all node k last b le = record {
  none = λ e i.
      let r = in_at [] i in
      subst (λ (f : Entry). stamp_of f ≤ℤ last) r.2 (b.none r.0 (omega (arith, r.1, length-entries_of node)));
}

pub one_after : (node : List ℤ) (k : ℕ) (last s : ℤ) → k < entry_count node → s ≡ stamp_of (entry_at node k) → last <ℤ s → NoneAfter (entries_of node) last → ⊥
one_after node k last s lt e h n = clash_ℤ h (rw e (n.none (entry_at node k) (entry_in node k lt)))

-- a test that finds no entry after `last` at any place
pub none_tells : (node : List ℤ) (last : ℤ) {r : Bool} → Tells r ((k : ℕ) → k < entry_count node → stamp_of (entry_at node k) ≤ℤ last) → Tells r (NoneAfter (entries_of node) last)
none_tells node last t =
    tells_as t
    (λ f. none_all node (entry_count node) last (record { none = λ k lt. rw (entry_is node k lt) (f k lt) }) (omega arith))
    (λ n k lt. n.none (entry_at node k) (entry_in node k lt))

pub child_tells : (w : List ℤ) (cells : ℕ) (e : Entry) (c : ℕ) → IsNode cells (child_word e) → c ≡ entry_count (node_at w (child_of e)) → Tells (leb 3 c) (ChildSound (entries_at w) cells e)
unfolding entries_at
child_tells w cells e c i k = record {
  sure = λ t. record { child_in = i; filled = omega (arith, leb→le 3 c t, length-entries_of (node_at w (child_of e))) };
  seen = λ s. le→leb 3 c (omega (arith, s.filled, length-entries_of (node_at w (child_of e))));
}

-- a node of the table lies in its words
pub node_in_table : (w : List ℤ) (cells n : ℕ) (z : ℤ) → words_for cells ≤ length w → IsNode cells z → n ≡ nat_of z → InTable w n
node_in_table w cells n z long i e = omega (arith, node_below i)

-- a child with no level beneath it is a leaf
pub leaf_test : (below : ℕ) → eqb below 0 ≡ is_leaf below
leaf_test zero = refl
leaf_test (suc h) = ne_eqb (suc h) 0 not_zero
  where
    not_zero : suc h ≡ 0 → ⊥
    not_zero e = omega arith
