-- Costs are ordered, and the search for the least one.
use Rattle.std.specs.Prelude.{◌≡◌, List, ℕ, ◌+◌, ◌<◌, ℤ, ◌≤ℤ◌, ◌<ℤ◌}
use Rattle.std.proofs.Common.{sym, subst, ◌∙◌, inl, inr, ⊎_elim, not-suc-le-zero, arith, below_more}
use Rattle.std.specs.Int.Signed.{lt_z, lt_z_yes, <ℤ-≤ℤ_trans, <ℤ_irrefl}
use Rattle.whole.specs.Laws.Order.{<ℤ_trans, ≤ℤ_antisym, ≤ℤ-or-<ℤ}
use Rattle.whole.specs.Tells.{Tells}
use Rattle.track.specs.Meets.{Bounds}
use Rattle.tree_choice.specs.Child.{child_cost, Cheaper, CheapestOf}
use Rattle.tree_choice.specs.declared.child.Cost.{Cost}

-- ---- the order
cheaper_not_itself : (c : Cost) → Cheaper c c → ⊥
cheaper_not_itself c (inl h) = <ℤ_irrefl h
cheaper_not_itself c (inr h) = <ℤ_irrefl h.1

cheaper_trans : {c d e : Cost} → Cheaper c d → Cheaper d e → Cheaper c e
cheaper_trans (inl h) (inl k) = inl (<ℤ_trans h k)
cheaper_trans {c} {d} {e} (inl h) (inr k) = inl (subst (λ (z : ℤ). c.growth <ℤ z) k.0 h)
cheaper_trans {c} {d} {e} (inr h) (inl k) = inl (subst (λ (z : ℤ). z <ℤ e.growth) (sym h.0) k)
cheaper_trans (inr h) (inr k) = inr (h.0 ∙ k.0, <ℤ_trans h.1 k.1)

-- what is cheaper than d is cheaper than all that is not
cheaper_than_others : {c d e : Cost} → Cheaper c d → (Cheaper e d → ⊥) → Cheaper c e
cheaper_than_others {c} {d} {e} h not =
    ⊎_elim
    (λ below. by below (⊎_elim (λ k. k) (λ k. absurd (not (inl k))) (≤ℤ-or-<ℤ d.growth e.growth)) h)
    (λ above. inl above)
    (≤ℤ-or-<ℤ e.growth c.growth)
  where
    -- e grows no more than c, and no less than d: so all three grow alike
    by : e.growth ≤ℤ c.growth → d.growth ≤ℤ e.growth → Cheaper c d → Cheaper c e
    by below up (inl k) = inl (<ℤ-≤ℤ_trans k up)
    by below up (inr k) =
        let level : e.growth ≡ d.growth = ≤ℤ_antisym e.growth d.growth (subst (λ (z : ℤ). e.growth ≤ℤ z) k.0 below) up in
        inr (
          k.0 ∙ sym level,
          ⊎_elim (<ℤ-≤ℤ_trans k.1) (λ m. absurd (not (inr (level, m)))) (≤ℤ-or-<ℤ d.before e.before),
        )

-- ---- the ways of the test
pub tells_level : (c d : Cost) → c.growth ≡ d.growth → Tells (lt_z c.before d.before) (Cheaper c d)
tells_level c d e = record { sure = λ t. inr (e, lt_z_yes t); seen = ⊎_elim (λ h. absurd (<ℤ_irrefl (subst (λ (z : ℤ). z <ℤ d.growth) e h))) (λ h. h.1.lt) }

pub tells_growth : (c d : Cost) → (c.growth ≡ d.growth → ⊥) → Tells (lt_z c.growth d.growth) (Cheaper c d)
tells_growth c d apart = record { sure = λ t. inl (lt_z_yes t); seen = ⊎_elim (λ h. h.lt) (λ h. absurd (apart h.0)) }

-- ---- the ways of the search
module _ {node : List ℤ} {b : Bounds} {minute : ℤ} where
  pub cheapest_one : CheapestOf 1 node b minute 0
  cheapest_one = record {
    in_node = omega arith;
    least = λ j low. subst (λ (i : ℕ). Cheaper (child_cost node i b minute) (child_cost node 0 b minute) → ⊥) (only j low) (cheaper_not_itself (child_cost node 0 b minute));
    first = λ j low. absurd (not-suc-le-zero low);
  }
    where
      only : (j : ℕ) → j < 1 → 0 ≡ j
      only j low = omega arith

  module _ {k best : ℕ} (c : CheapestOf k node b minute best) where
    pub cheapest_new : Cheaper (child_cost node k b minute) (child_cost node best b minute) → CheapestOf (k + 1) node b minute k
    cheapest_new h = record {
      in_node = omega arith;
      least = below_more _ _ (λ j low m. c.least j low (cheaper_trans m h)) (cheaper_not_itself (child_cost node k b minute));
      first = λ j low. cheaper_than_others h (c.least j low);
    }

    pub cheapest_kept : (Cheaper (child_cost node k b minute) (child_cost node best b minute) → ⊥) → CheapestOf (k + 1) node b minute best
    cheapest_kept not = record { in_node = omega (arith, c.in_node); least = below_more _ _ c.least not; first = c.first }
