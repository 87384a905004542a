-- A range on both sides of 0.
use Rattle.std.specs.Prelude.{ℕ, ◌≤◌, ℤ, nat_abs}

-- z lies within `bound` either side of 0. A record, so that both are inferred from a fact
pub record Within (bound : ℕ) (z : ℤ) : Type 0 where
  pub abs : nat_abs z ≤ bound
