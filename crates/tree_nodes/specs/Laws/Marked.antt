-- The marked entries of a full node moved to a free one, one after the other.
use Rattle.std.specs.Prelude.{◌≡◌, refl, Bool, true, false, List, [], ◌∷◌, ℕ, zero, suc, ◌+◌, ◌≤◌, ◌<◌, ℤ, get_or, drop}
use Rattle.std.proofs.Common.{ap, subst, not-suc-le-zero, le_of_suc-le-suc, add-one, arith, length-drop, drop_of_length-le}
use Rattle.std.proofs.Math.ListN.{length}
use Rattle.whole.specs.Inner.Times.{once_if}
use Rattle.words.specs.Layout.{full_node}
use Rattle.tree_choice.specs.Parting.{marked}
use Rattle.table.specs.Header.{capacity, entries_at}
use Rattle.tree_nodes.specs.Laws.Kept.{kept_ample, kept-capacity}
use Rattle.tree_nodes.specs.Inner.Shift.{Shifted, CanShift}
use Rattle.tree_nodes.specs.Laws.Shift.{shifted_none, shifted_left, shifted_then}
use Rattle.tree_nodes.specs.Inner.Marked.{CanPart}

-- ---- marks from a place on
marked_most : (marks : List Bool) → marked marks ≤ length marks
unfolding marked
marked_most [] = omega arith
marked_most (true ∷ marks) = omega (arith, marked_most marks)
marked_most (false ∷ marks) = omega (arith, marked_most marks)

marked_step : (marks : List Bool) (k : ℕ) → k < length marks → marked (drop k marks) ≡ marked (drop (suc k) marks) + once_if (get_or marks k false)
unfolding marked
marked_step [] k low = absurd (not-suc-le-zero low)
marked_step (true ∷ marks) zero low = omega arith
marked_step (false ∷ marks) zero low = omega arith
marked_step (mark ∷ marks) (suc k) low = marked_step marks k (le_of_suc-le-suc low)

-- the marked entries from place k on have gone
abbrev pub GoneFrom : List ℤ → ℕ → ℕ → List Bool → ℕ → List ℤ → Type 0
GoneFrom w from to marks k v = Shifted (capacity w) w from to (marked (drop k marks)) v

module _ {w : List ℤ} {from to : ℕ} {marks : List Bool} (can : CanPart w from to marks) where
  pub apart : to ≡ from → ⊥
  apart e = omega (arith, can.full, ap length (subst (λ (j : ℕ). entries_at w j ≡ []) e can.free))

  pub gone_none : GoneFrom w from to marks full_node w
  unfolding marked
  gone_none =
      let short : length marks ≤ full_node = omega (arith, can.parts.all) in
      rw (drop_of_length-le marks short) shifted_none

  module _ (k : ℕ) (low : k < full_node) {v : List ℤ} (gone : GoneFrom w from to marks (k + 1) v) where
    left : marked (drop (k + 1) marks) + k < full_node
    left = omega (arith, marked_most (drop (k + 1) marks), length-drop (k + 1) marks, can.parts.all)

    -- entry k can go
    pub can_go : CanShift v from k to
    can_go = record {
      ample = kept_ample gone.kept can.ample;
      from_in = rw (kept-capacity gone.kept) can.from_in;
      to_in = rw (kept-capacity gone.kept) can.to_in;
      apart = apart;
      has = omega (arith, left, shifted_left gone, can.full);
      room = omega (arith, left, gone.more, ap length can.free);
    }

    step : marked (drop k marks) ≡ marked (drop (k + 1) marks) + once_if (get_or marks k false)
    step = rw (add-one) (marked_step marks k (omega (arith, can.parts.all)))

    -- it went, or it stays
    pub gone_go : {u : List ℤ} → get_or marks k false ≡ true → Shifted (capacity v) v from to 1 u → GoneFrom w from to marks k u
    gone_go is s = rw (step, is) (shifted_then gone s refl)

    pub gone_stay : get_or marks k false ≡ false → GoneFrom w from to marks k v
    gone_stay is = rw (step, is) (subst (λ (n : ℕ). Shifted (capacity w) w from to n v) (omega arith) gone)
