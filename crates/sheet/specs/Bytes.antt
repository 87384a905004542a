-- Numbers as bytes: little-endian words of 32 bits, two's complement. A byte past the end is read as 0.
use Rattle.std.specs.Prelude.{List, [], ◌∷◌, ℕ, ◌+◌, ◌*◌, ◌/◌, ◌%◌, ◌<◌, ℤ, get_or}
use Rattle.std.specs.Int.{w32}
use Rattle.std.proofs.Common.{to_z, of_z}

abbrev pub byte_at : List ℕ → ℕ → ℕ
byte_at bytes at = get_or bytes at 0

-- a list of numbers that are bytes, as every slice of bytes is
abbrev pub AreBytes : List ℕ → Type 0
AreBytes bytes = (at : ℕ) → byte_at bytes at < 256

abbrev pub word_bytes : ℕ
word_bytes = 4

-- the four bytes of a number, the least first
unfoldable pub four_bytes : ℕ → List ℕ
four_bytes n = n % 256 ∷ n / 256 % 256 ∷ n / 256 / 256 % 256 ∷ n / 256 / 256 / 256 % 256 ∷ []

-- the number of the four bytes from `at` on
unfoldable pub unsigned_at : List ℕ → ℕ → ℕ
unsigned_at bytes at =
    byte_at bytes at + 256 * (byte_at bytes (at + 1) + 256 * (byte_at bytes (at + 2) + 256 * byte_at bytes (at + 3)))

-- a word's four bytes: those of its two's complement, which is z itself, or 2 ^ 32 + z where z is negative
unfoldable pub bytes_of : ℤ → List ℕ
bytes_of z = four_bytes (of_z w32 z)

-- the word whose four bytes stand from `at` on
unfoldable pub word_in_bytes : List ℕ → ℕ → ℤ
word_in_bytes bytes at = to_z w32 (unsigned_at bytes at)

abbrev pub word_of : List ℕ → ℤ
word_of four = word_in_bytes four 0
