-- What reading finds at a cursor of a line: digits, and a number.
use Rattle.std.specs.Prelude.{◌≡◌, List, ◌++◌, ℕ, ◌≤◌, ℤ, pos, Option, Some, None, length, drop}
use Rattle.decimal.specs.Spells.{Digits, Spells}
use Rattle.decimal.specs.Inner.DigitRuns.{Stops}

-- l is one to nine digits that spell n, and then `rest`
pub record Plain (l : List ℕ) (n : ℕ) (rest : List ℕ) : Type 0 where
  pub spelling : List ℕ
  pub digits : Digits n spelling
  pub some : 1 ≤ length spelling
  pub few : length spelling ≤ 9
  pub stops : Stops rest
  pub is : l ≡ spelling ++ rest

-- l is a spelling of z, and then `rest`
pub record Begins (l : List ℕ) (z : ℤ) (rest : List ℕ) : Type 0 where
  pub spelling : List ℕ
  pub spells : Spells z spelling
  pub stops : Stops rest
  pub is : l ≡ spelling ++ rest

abbrev pub DigitsRead : List ℕ → ℕ → Option (ℤ × ℕ) → Type 0
DigitsRead line at (Some (z, next)) = (n : ℕ) × (z ≡ pos n) × (next ≤ length line) × Plain (drop at line) n (drop next line)
DigitsRead line at None = (n : ℕ) (rest : List ℕ) → Plain (drop at line) n rest → ⊥

abbrev pub NumberRead : List ℕ → ℕ → Option (ℤ × ℕ) → Type 0
NumberRead line at (Some (z, next)) = (next ≤ length line) × Begins (drop at line) z (drop next line)
NumberRead line at None = (z : ℤ) (rest : List ℕ) → Begins (drop at line) z rest → ⊥
