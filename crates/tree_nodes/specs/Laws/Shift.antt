-- Entries moved from one node to another, one by one, and the entries of two nodes dealt out anew.
use Rattle.std.specs.Prelude.{◌≡◌, refl, List, [], ◌∷◌, ◌++◌, ℕ, ◌+◌, ℤ, length, get_or}
use Rattle.std.proofs.Common.{sym, ap, ◌∙◌, arith, length-append}
use Rattle.node.specs.Entry.{Entry}
use Rattle.node.specs.Inner.ChangeAt.{Changed}
use Rattle.table.specs.Header.{capacity, entries_at}
use Rattle.tree_laws.specs.Inner.Weights.{SameWeights}
use Rattle.tree_laws.specs.Laws.Weights.{sum-append, sum_cons, sum_one, same_refl, same_trans, same_swap, same_length}
use Rattle.node.specs.Inner.Change.{without}
use Rattle.tree_laws.specs.Laws.Places.{at_weights}
use Rattle.tree_nodes.specs.Inner.Kept.{Kept}
use Rattle.tree_nodes.specs.Laws.Kept.{kept_all, kept_then, kept-capacity, changed_kept, changed_here, changed_others}
use Rattle.tree_nodes.specs.Inner.Shift.{Shifted, CanShift}

module _ {cells : ℕ} {w : List ℤ} {from to : ℕ} where
  pub shifted_none : Shifted cells w from to 0 w
  shifted_none = record { kept = kept_all cells w; all = same_refl; more = omega arith; others = λ j p q. refl }

  module _ {n : ℕ} {v : List ℤ} (s : Shifted cells w from to n v) where
    -- so many fewer are left
    pub shifted_left : length (entries_at v from) + n ≡ length (entries_at w from)
    shifted_left =
        omega (arith, same_length s.all, s.more, length-append (entries_at w from) (entries_at w to), length-append (entries_at v from) (entries_at v to))

    pub shifted_then : {m : ℕ} {u : List ℤ} → Shifted (capacity v) v from to m u → capacity w ≡ cells → Shifted cells w from to (n + m) u
    shifted_then later is = let k = rw (kept-capacity s.kept, is) at later.kept in record {
      kept = kept_then s.kept k;
      all = same_trans s.all later.all;
      more = omega (arith, s.more, later.more);
      others = λ j p q. later.others j p q ∙ s.others j p q;
    }

-- one entry, taken out of the one node and put behind the others of the other
pub shift_one : {w v u : List ℤ} {from k to : ℕ} {e : Entry} → CanShift w from k to → e ≡ get_or (entries_at w from) k [] → Changed w from (without k (entries_at w from)) v
    → Changed v to (entries_at v to ++ e ∷ []) u → Shifted (capacity w) w from to 1 u
shift_one {w} {v} {u} {from} {k} {to} {e} can is out into =
    let kept = changed_kept out can.from_in in
    let there = changed_others out to can.apart in
    let here = changed_others into from (λ (q : from ≡ to). can.apart (sym q)) ∙ changed_here out in
    let now : entries_at u to ≡ entries_at w to ++ e ∷ [] = changed_here into ∙ ap (λ (l : List Entry). l ++ e ∷ []) there in
    record {
      kept = kept_then kept (changed_kept into can.to_in);
      all = rw (here, now) (record {
        same = λ φ. omega (
          arith,
          (at_weights (entries_at w from) k [] can.has).same φ,
          ap φ is,
          sum_cons φ (get_or (entries_at w from) k []) (without k (entries_at w from)),
          sum-append φ (entries_at w from) (entries_at w to),
          sum-append φ (without k (entries_at w from)) (entries_at w to ++ e ∷ []),
          sum-append φ (entries_at w to) (e ∷ []),
          sum_one φ e,
        );
      });
      more = rw now (simp length-append refl);
      others = λ j p q. changed_others into j q ∙ changed_others out j p;
    }

-- the entries of two nodes are dealt out anew between them
pub record Dealt (cells : ℕ) (w : List ℤ) (a b : ℕ) (v : List ℤ) : Type 0 where
  pub kept : Kept cells w v
  pub all : SameWeights (entries_at w a ++ entries_at w b) (entries_at v a ++ entries_at v b)
  pub others : (j : ℕ) → (j ≡ a → ⊥) → (j ≡ b → ⊥) → entries_at v j ≡ entries_at w j

-- whichever gave some to the other
module _ {cells : ℕ} {w v : List ℤ} {from to n : ℕ} (s : Shifted cells w from to n v) where
  pub dealt_to : Dealt cells w from to v
  dealt_to = record { kept = s.kept; all = s.all; others = s.others }

  pub dealt_from : Dealt cells w to from v
  dealt_from = record {
    kept = s.kept;
    all = same_trans (same_swap (entries_at w to) (entries_at w from)) (same_trans s.all (same_swap (entries_at v from) (entries_at v to)));
    others = λ j p q. s.others j q p;
  }
