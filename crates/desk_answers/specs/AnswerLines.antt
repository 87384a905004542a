-- The desk's answers as lines of bytes, each with its line feed, and what writing one into a lent buffer does.
use Rattle.std.specs.Prelude.{◌≡◌, List, [], ◌∷◌, ◌++◌, ℕ, ◌≤◌, ◌<◌, ℤ, length, drop}
use Rattle.words.specs.Words.{nat_of}
use Rattle.decimal.specs.Decimal.{Decimal}

-- ok
abbrev pub ok_line : List ℕ
ok_line = 111 ∷ 107 ∷ 10 ∷ []

-- bad
abbrev pub bad_line : List ℕ
bad_line = 98 ∷ 97 ∷ 100 ∷ 10 ∷ []

-- no and a space; hits and a space
abbrev pub no_word : List ℕ
no_word = 110 ∷ 111 ∷ 32 ∷ []

abbrev pub hits_word : List ℕ
hits_word = 104 ∷ 105 ∷ 116 ∷ 115 ∷ 32 ∷ []

-- for each number one space and its digits. Identifiers are positive; a number below 0 would be written as 0
pub data Spaced : List ℤ → List ℕ → Type 0 where
  none : Spaced [] []
  and_number : {z : ℤ} {d : List ℕ} {zs : List ℤ} {s : List ℕ} → Decimal (nat_of z) d → Spaced zs s → Spaced (z ∷ zs) (32 ∷ (d ++ s))

pub record NoLine (number : ℤ) (line : List ℕ) : Type 0 where
  pub digits : List ℕ
  pub decimal : Decimal (nat_of number) digits
  pub is : line ≡ no_word ++ (digits ++ 10 ∷ [])

-- the count of the identifiers, and each of them
pub record HitsLine (ids : List ℤ) (line : List ℕ) : Type 0 where
  pub count : List ℕ
  pub fields : List ℕ
  pub counted : Decimal (length ids) count
  pub spaced : Spaced ids fields
  pub is : line ≡ hits_word ++ (count ++ (fields ++ 10 ∷ []))

-- a line was written to the buffer's first bytes and nothing else was changed; r is how many bytes it has
pub record LineWritten (Line : List ℕ → Type 0) (before after : List ℕ) (r : ℕ) : Type 0 where
  pub line : List ℕ
  pub spelt : Line line
  pub long : r ≡ length line
  pub fits : r ≤ length before
  pub is : after ≡ line ++ drop r before

-- a buffer without `room` for the longest such line is refused: nothing is written, and the answer is 0
pub record Spelt (room : ℕ) (Line : List ℕ → Type 0) (before after : List ℕ) (r : ℕ) : Type 0 where
  pub refused : length before < room → (after ≡ before) × (r ≡ 0)
  pub written : room ≤ length before → LineWritten Line before after r
