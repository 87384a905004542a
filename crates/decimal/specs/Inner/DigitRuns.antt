-- Runs of digits in a line.
use Rattle.std.specs.Prelude.{List, [], ◌∷◌, ℕ, ◌+◌, ◌≤◌, length, drop}
use Rattle.words.specs.Parts.{part}

pub record IsDigit (b : ℕ) : Type 0 where
  pub from : 48 ≤ b
  pub to : b ≤ 57

pub data AllDigits : List ℕ → Type 0 where
  none : AllDigits []
  and : {b : ℕ} {s : List ℕ} → IsDigit b → AllDigits s → AllDigits (b ∷ s)

-- no digit stands first
abbrev pub Stops : List ℕ → Type 0
Stops [] = Unit
Stops (b ∷ l) = IsDigit b → ⊥

-- n digits stand from `at` on, and no more
pub record DigitsEnd (line : List ℕ) (at n : ℕ) : Type 0 where
  pub inside : at + n ≤ length line
  pub digits : AllDigits (part line at n)
  pub stops : Stops (drop (at + n) line)
