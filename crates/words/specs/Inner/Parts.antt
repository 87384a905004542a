-- When a run can be copied within a list.
use Rattle.std.specs.Prelude.{List, ℕ, ◌+◌, ◌≤◌, ◌<◌, length}

-- a run of n elements may be copied in ascending order, one by one, without being overwritten before it is read:
-- moved down it may overlap itself, moved up it may not
pub record CanCopy {A : Type 0} (w : List A) (from to n : ℕ) : Type 0 where
  pub from_inside : from + n ≤ length w
  pub to_inside : to + n ≤ length w
  pub apart_upward : from < to → from + n ≤ to
