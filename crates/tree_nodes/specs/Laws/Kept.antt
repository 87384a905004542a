-- What a change keeps, over several changes and for a change at one node; and that a table stays long enough.
use Rattle.std.specs.Prelude.{◌≡◌, refl, List, ℕ, ◌^◌, ◌<◌, ℤ}
use Rattle.std.proofs.Math.Path.{ap}
use Rattle.std.proofs.Common.{◌∙◌, arith}
use Rattle.std.proofs.Math.Decide.{ℕ_discrete}
use Rattle.words.specs.Layout.{InTable, node_at}
use Rattle.words.specs.Words.{nat_of}
use Rattle.node.specs.Entry.{Entry, entries_of, entry_count_word, IsCount}
use Rattle.node.specs.Inner.ChangeAt.{Changed}
use Rattle.table.specs.Header.{capacity, nodes_for, entries_at}
use Rattle.tree_nodes.specs.Inner.Kept.{AllCounted, Kept, Ample}

pub kept_all : (cells : ℕ) (w : List ℤ) → Kept cells w w
kept_all cells w = record { same_length = refl; same_header = λ at h. refl; same_rest = λ at h. refl; still_counted = λ c. c }

pub kept_then : {cells : ℕ} {w v u : List ℤ} → Kept cells w v → Kept cells v u → Kept cells w u
kept_then k l = record {
  same_length = l.same_length ∙ k.same_length;
  same_header = λ at h. l.same_header at h ∙ k.same_header at h;
  same_rest = λ at h. l.same_rest at h ∙ k.same_rest at h;
  still_counted = λ c. l.still_counted (k.still_counted c);
}

-- the capacity stands in the header
pub kept-capacity : {cells : ℕ} {w v : List ℤ} → Kept cells w v → capacity v ≡ capacity w
kept-capacity k = ap nat_of (k.same_header 0 (omega arith))

pub ample_in : {w : List ℤ} → Ample w → (i : ℕ) → i < nodes_for (capacity w) → InTable w i
ample_in a i low = omega (arith, a.long)

-- a node's number fits a word
pub ample_low : {w : List ℤ} → Ample w → (i : ℕ) → i < nodes_for (capacity w) → i < 2 ^ 31
ample_low a i low = omega (arith, a.few)

pub kept_ample : {cells : ℕ} {w v : List ℤ} → Kept cells w v → Ample w → Ample v
kept_ample k a = record { few = rw (kept-capacity k) a.few; long = rw (kept-capacity k, k.same_length) a.long }

-- one node of the table changed
module _ {w w' : List ℤ} {i : ℕ} {es : List Entry} (c : Changed w i es w') where
  pub changed_kept : {cells : ℕ} → i < nodes_for cells → Kept cells w w'
  changed_kept {cells} low = record {
    same_length = c.same_length;
    same_header = c.before;
    same_rest = λ at h. c.behind at (omega arith);
    still_counted = λ each j lt. by each j lt (ℕ_discrete j i);
  }
    where
      by : AllCounted cells w → (j : ℕ) → j < nodes_for cells → Dec (j ≡ i) → IsCount (entry_count_word (node_at w' j))
      by each j lt (yes e) = rw e (c.still_counted (each i low))
      by each j lt (no ne) = rw (c.others j ne) (each j lt)

  -- its entries, and those of the others
  pub changed_here : entries_at w' i ≡ es
  unfolding entries_at
  changed_here = c.entries

  pub changed_others : (j : ℕ) → (j ≡ i → ⊥) → entries_at w' j ≡ entries_at w j
  unfolding entries_at
  changed_others j ne = ap entries_of (c.others j ne)
