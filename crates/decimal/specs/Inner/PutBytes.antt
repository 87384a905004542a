-- Bytes written from a place of the buffer on.
use Rattle.std.specs.Prelude.{◌≡◌, List, ℕ, ◌+◌, ◌≤◌, length}
use Rattle.words.specs.Parts.{put}

-- whichever such bytes are written from `at` on, they end by `end`
abbrev pub EndsBy : (List ℕ → Type 0) → ℕ → ℕ → Type 0
EndsBy P at end = (s : List ℕ) → P s → at + length s ≤ end

-- such bytes were written from `at` on, up to r
pub record Put (P : List ℕ → Type 0) (before : List ℕ) (at : ℕ) (after : List ℕ) (r : ℕ) : Type 0 where
  pub bytes : List ℕ
  pub spelt : P bytes
  pub end : r ≡ at + length bytes
  pub fits : r ≤ length before
  pub is : after ≡ put before at (length bytes) bytes

-- these bytes and no others
abbrev pub TheseBytes : List ℕ → List ℕ → Type 0
TheseBytes word s = s ≡ word
