-- When the hits can be written to the list.
use Rattle.std.specs.Prelude.{List, ℕ, ◌^◌, ◌≤◌, ◌<◌, ℤ, length, get_or}

-- the first m keys can be written to the list's first places
pub record CanWrite (list : List ℤ) (keys : List ℕ) (m : ℕ) : Type 0 where
  pub fits : m ≤ length list
  pub inside : m ≤ length keys
  pub small : (i : ℕ) → i < m → get_or keys i 0 < 2 ^ 31
