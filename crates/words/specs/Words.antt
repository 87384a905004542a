-- What the words of a table are read as: a number, a count, a row of four numbers, two rows. A word past the end is read as 0.
use Rattle.std.specs.Prelude.{List, [], ◌∷◌, ℕ, ◌+◌, ℤ, pos, negsuc, get_or, set}

-- the word at `at`
abbrev pub word_at : List ℤ → ℕ → ℤ
word_at w at = get_or w at (pos 0)

-- a word taken for a count or an index: itself, or 0 where it is negative
unfoldable pub nat_of : ℤ → ℕ
nat_of (pos n) = n
nat_of (negsuc n) = 0

-- the four words from `at` on
unfoldable pub row_at : List ℤ → ℕ → List ℤ
row_at w at = word_at w at ∷ word_at w (at + 1) ∷ word_at w (at + 2) ∷ word_at w (at + 3) ∷ []

-- the two rows that stand one after the other from `at` on
abbrev pub rows_at : List ℤ → ℕ → List (List ℤ)
rows_at w at = row_at w at ∷ row_at w (at + 4) ∷ []

-- a node with n for the count of its entries, which is its first word
unfoldable pub with_count : List ℤ → ℕ → List ℤ
with_count node n = set node 0 (pos n)
