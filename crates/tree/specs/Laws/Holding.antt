-- What stands of a table's words stands through changes put together, at a node and in the header.
use Rattle.std.specs.Prelude.{◌≡◌, refl, List, ℕ, ℤ}
use Rattle.std.proofs.Common.{ap, ◌∙◌, arith}
use Rattle.words.specs.Words.{nat_of}
use Rattle.table.specs.Header.{capacity_word, capacity}
use Rattle.tree_nodes.specs.Inner.Kept.{Ample, Kept}
use Rattle.table.specs.Inner.Headed.{Headed}
use Rattle.tree.specs.Inner.Holding.{Stands}

pub stands_all : (cells : ℕ) (w : List ℤ) → Stands cells w w
stands_all cells w = record { same_length = refl; same_capacity = refl; same_rest = λ at h. refl; still_counted = λ c. c }

pub stands_then : {cells : ℕ} {w v u : List ℤ} → Stands cells w v → Stands cells v u → Stands cells w u
stands_then s t = record {
  same_length = t.same_length ∙ s.same_length;
  same_capacity = t.same_capacity ∙ s.same_capacity;
  same_rest = λ at h. t.same_rest at h ∙ s.same_rest at h;
  still_counted = λ c. t.still_counted (s.still_counted c);
}

pub kept_stands : {cells : ℕ} {w v : List ℤ} → Kept cells w v → Stands cells w v
kept_stands k = record { same_length = k.same_length; same_capacity = k.same_header 0 (omega arith); same_rest = k.same_rest; still_counted = k.still_counted }

pub headed_stands : {cells : ℕ} {w v : List ℤ} → Headed w v → capacity_word v ≡ capacity_word w → Stands cells w v
headed_stands h same = record {
  same_length = h.same_length;
  same_capacity = same;
  same_rest = λ at b. h.behind at (omega arith);
  still_counted = λ c i low. rw (h.nodes i) (c i low);
}

module _ {cells : ℕ} {w v : List ℤ} (s : Stands cells w v) where
  pub stands_capacity : capacity v ≡ capacity w
  stands_capacity = ap nat_of s.same_capacity

  pub stands_ample : Ample w → Ample v
  stands_ample a = record { few = rw stands_capacity a.few; long = rw (stands_capacity, s.same_length) a.long }
