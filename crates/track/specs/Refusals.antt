-- The refusals by number, and which of several is given.
use Rattle.std.specs.Prelude.{◌≡◌, ◌⊎◌, List, [], ◌∷◌, cond, ℕ, zero, suc, ltb, ℤ, pos, Result, Ok, Err}
use Rattle.track.specs.declared.refusal.Refusal.{Refusal}
use Rattle.track.specs.declared.refusal.Refusal.TheVariants.{NotSound, BadCapacity, ShortTable, OutOfRange, BeforeClock, ExpiresFirst, Backward, NotLive, Full, ShortList, BadHeader, BadRecord, ShortBytes, NoTrack}

abbrev pub number : Refusal → ℕ
number NotSound = 1
number BadCapacity = 2
number ShortTable = 3
number OutOfRange = 4
number BeforeClock = 5
number ExpiresFirst = 6
number Backward = 7
number NotLive = 8
number Full = 9
number ShortList = 10
number BadHeader = 11
number BadRecord = 12
number ShortBytes = 13
number NoTrack = 14

-- the number of a call's result: 0 where it is not refused, else the refusal's
abbrev pub number_of : {A : Type 0} → Result A Refusal → ℕ
number_of (Ok a) = 0
number_of (Err why) = number why

-- a number, and what it is given for
infix 70 ◌when◌
pub data Reason : Type 1 where
  ◌when◌ : ℕ → Type 0 → Reason

-- `First reasons n`: n is the number of the first of the reasons that holds, and 0 where none does
abbrev pub First : List Reason → ℕ → Type 0
First [] n = n ≡ 0
First (k when P ∷ rest) n = (P × (n ≡ k)) ⊎ ((P → ⊥) × First rest n)

-- ---- a result that is the number given
pub record Gives (rs : List Reason) (r : ℤ) : Type 0 where
  pub number : ℕ
  pub is : r ≡ pos number
  pub first : First rs number

-- ---- of two answers, each 0 or a refusal's number, the first number that is given
abbrev pub first_given : ℕ → ℕ → ℕ
first_given zero n = n
first_given (suc m) zero = suc m
first_given (suc m) (suc n) = cond (ltb (suc n) (suc m)) (suc n) (suc m)
