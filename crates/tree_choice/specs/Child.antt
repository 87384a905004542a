-- Which child a cell enters: that whose area integral grows least by it, as in the paper on the TPR-tree, §3.4.
use Rattle.std.specs.Prelude.{◌≡◌, false, ◌⊎◌, List, ℕ, ◌<◌, ℤ, ◌-ℤ◌, ◌<ℤ◌}
use Rattle.words.specs.Layout.{entry_at}
use Rattle.track.specs.Meets.{Bounds}
use Rattle.node.specs.Entry.{entry_count, bounds_of}
use Rattle.tree_choice.specs.Area.{cover_of, both_covers, area_integral}
use Rattle.tree_choice.specs.declared.child.Cost.{Cost}

-- what it costs the child of entry k to take in what has these bounds: the growth of its area integral, and the integral that it had
unfoldable pub child_cost : List ℤ → ℕ → Bounds → ℤ → Cost
child_cost node k b minute =
    let own = cover_of (bounds_of false (entry_at node k)) minute in
    record { growth = area_integral (both_covers own (cover_of b minute)) -ℤ area_integral own; before = area_integral own }

-- less growth, or as much and a lesser integral before
abbrev pub Cheaper : Cost → Cost → Type 0
Cheaper c d = (c.growth <ℤ d.growth) ⊎ ((c.growth ≡ d.growth) × (c.before <ℤ d.before))

-- of the first n entries `best` takes the bounds in at the least cost, and it is the first of several that do
pub record CheapestOf (n : ℕ) (node : List ℤ) (b : Bounds) (minute : ℤ) (best : ℕ) : Type 0 where
  pub in_node : best < n
  pub least : (j : ℕ) → j < n → Cheaper (child_cost node j b minute) (child_cost node best b minute) → ⊥
  pub first : (j : ℕ) → j < best → Cheaper (child_cost node best b minute) (child_cost node j b minute)

abbrev pub Cheapest : List ℤ → Bounds → ℤ → ℕ → Type 0
Cheapest node b minute best = CheapestOf (entry_count node) node b minute best

-- of the two entries j and k, r is k where that is cheaper, and j elsewhere
pub record CheaperOf (node : List ℤ) (j k : ℕ) (b : Bounds) (minute : ℤ) (r : ℕ) : Type 0 where
  pub one_of : (r ≡ j) ⊎ (r ≡ k)
  pub other : Cheaper (child_cost node k b minute) (child_cost node j b minute) → r ≡ k
  pub own : (Cheaper (child_cost node k b minute) (child_cost node j b minute) → ⊥) → r ≡ j
