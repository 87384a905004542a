-- What is kept of a line while its bytes come in.
use Rattle.std.specs.Prelude.{◌≡◌, List, [], ◌∷◌, ◌++◌, ℕ, ◌+◌, ◌≤◌, ◌<◌, length, take, set}

-- of the bytes of a line so far, the first n of the buffer are as many as it has room for. So a buffer with one place more than the longest
-- line has is full when the line is too long, however long it is
pub record LineHeld (buffer : List ℕ) (n : ℕ) (line : List ℕ) : Type 0 where
  pub inside : n ≤ length buffer
  pub is : take n buffer ≡ take (length buffer) line

-- one byte more: it stands behind the n bytes that are held, or is left out where there is no room. Nothing else of the buffer is touched
pub record Keeps (buffer : List ℕ) (n b : ℕ) (buffer' : List ℕ) (n' : ℕ) : Type 0 where
  pub room : n < length buffer → (buffer' ≡ set buffer n b) × (n' ≡ n + 1)
  pub full : length buffer ≤ n → (buffer' ≡ buffer) × (n' ≡ n)

-- whatever line was held, that line with the byte b behind it is held now
abbrev pub KeepsByte : List ℕ → ℕ → ℕ → List ℕ → ℕ → Type 0
KeepsByte buffer n b buffer' n' = (line : List ℕ) → LineHeld buffer n line → LineHeld buffer' n' (line ++ b ∷ [])
