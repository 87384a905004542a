-- What a node's entries weigh where one is put in the place of another, put behind the others, or taken out.
use Rattle.std.specs.Prelude.{◌≡◌, List, [], ◌∷◌, ◌++◌, ℕ, suc, ◌+◌, ◌-◌, ◌<◌, length, get_or, set, take, drop}
use Rattle.std.proofs.Common.{ap, subst, add-one, arith, length-set, length-take, length-drop, get_or-set_other, get_or-take, get_or-drop}
use mathlib.Core.List.Memᴰ
use Rattle.std.proofs.Math.Decide.{dec_lt}
use Rattle.std.proofs.lemmas.List.{set_split, set-get_or}
use Rattle.whole.specs.Lists.{◌∈◌}
use Rattle.whole.specs.Laws.Lists.{at_in, cut_at}
use Rattle.tree_laws.specs.Inner.Weights.{sum_over, SameWeights}
use Rattle.tree_laws.specs.Laws.Weights.{sum_cons, same_as, same_trans, same_first, same_swap}
use Rattle.node.specs.Inner.Change.{without}

module _ {A : Type 0} where
  -- x put in the place of another
  pub set_weights : (l : List A) (k : ℕ) (x : A) → k < length l → SameWeights (set l k x) (x ∷ without k l)
  set_weights l k x lt = rw (add-one, set_split l k x) (same_first (take k l) x (drop (suc k) l))

  -- what stands at a place, and the others
  pub at_weights : (l : List A) (k : ℕ) (d : A) → k < length l → SameWeights l (get_or l k d ∷ without k l)
  at_weights l k d lt = subst (λ (m : List A). SameWeights m (get_or l k d ∷ without k l)) (set-get_or l k d) (set_weights l k (get_or l k d) lt)

  -- x put behind the others
  pub append_weights : (l : List A) (x : A) → SameWeights (l ++ x ∷ []) (x ∷ l)
  append_weights l x = same_swap l (x ∷ [])

-- what stands at the places k and m, and the others
pub record TwoPlaces {A : Type 0} (l : List A) (k m : ℕ) (d : A) : Type 0 where
  pub rest : List A
  pub both : SameWeights l (get_or l k d ∷ get_or l m d ∷ rest)
  -- others put in their places
  pub both-set : (x y : A) → SameWeights (set (set l k x) m y) (x ∷ y ∷ rest)
  -- one put in the place k, and what stands at m taken out
  pub one_out : (x : A) → SameWeights (without m (set l k x)) (x ∷ rest)

module _ {A : Type 0} (l : List A) (k m : ℕ) (d : A) (here : k < length l) (there : m < length l) (apart : m ≡ k → ⊥) where
  second_in : get_or l m d ∈ without k l
  second_in = by (dec_lt m k)
    where
      by : Dec (m < k) → get_or l m d ∈ without k l
      by (yes lt) = Memᴰ.append_left (drop (k + 1) l) (subst (λ (x : A). x ∈ take k l) (get_or-take k l m d lt) (at_in (take k l) m d (simp length-take (omega arith))))
      by (no ge) =
          let e : k + 1 + (m - (k + 1)) ≡ m = omega arith in
          let found = at_in (drop (k + 1) l) (m - (k + 1)) d (simp length-drop (omega arith)) in
          Memᴰ.append_right (take k l) (subst (λ (j : ℕ). get_or l j d ∈ drop (k + 1) l) e (rw get_or-drop at found))

  pub two_places : TwoPlaces l k m d
  two_places =
      let c = cut_at second_in in
      let rest = c.0 ++ c.1 in
      let second : SameWeights (without k l) (get_or l m d ∷ rest) = same_trans (same_as c.2) (same_first c.0 (get_or l m d) c.1) in
      record {
        rest = rest;
        both = record { same = λ φ. omega (arith, (at_weights l k d here).same φ, second.same φ, sum_cons φ (get_or l k d) (without k l), sum_cons φ (get_or l k d) (get_or l m d ∷ rest)) };
        both-set = λ x y. after rest second x y;
        one_out = λ x. out rest second x;
      }
    where
      kept : (x : A) → m < length (set l k x)
      kept x = simp length-set there

      first : (rest : List A) → SameWeights (without k l) (get_or l m d ∷ rest) → (x : A) (φ : A → ℕ) → sum_over φ (set l k x) ≡ φ x + (φ (get_or l m d) + sum_over φ rest)
      first rest second x φ = omega (arith, (set_weights l k x here).same φ, second.same φ, sum_cons φ x (without k l), sum_cons φ (get_or l m d) rest)

      out : (rest : List A) → SameWeights (without k l) (get_or l m d ∷ rest) → (x : A) → SameWeights (without m (set l k x)) (x ∷ rest)
      out rest second x = record {
        same = λ φ.
            omega (
              arith,
              first rest second x φ,
              (at_weights (set l k x) m d (kept x)).same φ,
              sum_cons φ (get_or (set l k x) m d) (without m (set l k x)),
              ap φ (get_or-set_other l k m x d apart),
              sum_cons φ x rest,
            );
      }

      after : (rest : List A) → SameWeights (without k l) (get_or l m d ∷ rest) → (x y : A) → SameWeights (set (set l k x) m y) (x ∷ y ∷ rest)
      after rest second x y = record {
        same = λ φ.
            omega (
              arith,
              (set_weights (set l k x) m y (kept x)).same φ,
              (out rest second x).same φ,
              sum_cons φ y (without m (set l k x)),
              sum_cons φ x rest,
              sum_cons φ x (y ∷ rest),
              sum_cons φ y rest,
            );
      }
