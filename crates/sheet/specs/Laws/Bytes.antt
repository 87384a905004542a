-- Laws of words as bytes: there and back, past the end, and in lists one after the other.
use Rattle.std.specs.Prelude.{◌≡◌, refl, List, [], ◌∷◌, ◌++◌, ℕ, ◌+◌, ◌*◌, ◌/◌, ◌%◌, ◌≤◌, ◌<◌, ℤ, pos, length, set}
use Rattle.std.proofs.Common.{◌∙◌, arith, add_assoc, add-one, get_or-append-add, SFits, to_z, of_z}
use Rattle.std.proofs.Math.Numerals.{add-two, add-three}
use Rattle.std.proofs.Math.ListN.{get_or-append, get_or-eq_default}
use Rattle.std.specs.Int.{w32}
use mir.ValLaws as ValLaws
use Rattle.whole.specs.Laws.Within.{back}
use Rattle.words.specs.Parts.{part, put}
use Rattle.words.specs.Laws.Parts.{part_four, sets_put}
use Rattle.sheet.specs.Bytes.{byte_at, AreBytes, word_bytes, four_bytes, unsigned_at, bytes_of, word_in_bytes, word_of}

-- ---- a number and its four bytes
there : (n : ℕ) → n < 4294967296 → unsigned_at (four_bytes n) 0 ≡ n
unfolding unsigned_at four_bytes
there n h = omega arith

last_digit : (a m : ℕ) → a < 256 → (a + 256 * m) % 256 ≡ a
last_digit a m h = omega arith

without_last : (a m : ℕ) → a < 256 → (a + 256 * m) / 256 ≡ m
without_last a m h = omega arith

back_again : (a b c d : ℕ) → a < 256 → b < 256 → c < 256 → d < 256 → four_bytes (a + 256 * (b + 256 * (c + 256 * d))) ≡ a ∷ b ∷ c ∷ d ∷ []
unfolding four_bytes
back_again a b c d ha hb hc hd =
    let e : d % 256 ≡ d = omega arith in
    simp (last_digit, without_last, e)

unsigned_below : (bytes : List ℕ) (at : ℕ) → AreBytes bytes → unsigned_at bytes at < 4294967296
unfolding unsigned_at
unsigned_below bytes at small = omega (arith, small at, small (at + 1), small (at + 2), small (at + 3))

-- ---- a word and its four bytes
pub length-bytes_of : (z : ℤ) → length (bytes_of z) ≡ word_bytes
unfolding bytes_of four_bytes
length-bytes_of z = refl

pub word_of_bytes : (z : ℤ) → SFits w32 z → word_of (bytes_of z) ≡ z
unfolding word_in_bytes bytes_of
word_of_bytes z f = let e = there (of_z w32 z) (ValLaws.of_z_fits w32 z f).fits in rw e (back f)

pub bytes_of_word : (bytes : List ℕ) (at : ℕ) → AreBytes bytes → at + word_bytes ≤ length bytes → bytes_of (word_in_bytes bytes at) ≡ part bytes at word_bytes
unfolding word_in_bytes bytes_of unsigned_at
bytes_of_word bytes at small inside =
    rw (ValLaws.of_z-to_z w32 (unsigned_at bytes at) (record { fits = unsigned_below bytes at small }))
    (back_again _ _ _ _ (small at) (small (at + 1)) (small (at + 2)) (small (at + 3)) ∙ part_four bytes at 0 inside)

-- ---- words of a part, and past the end
pub word_past : (bytes : List ℕ) (at : ℕ) → length bytes ≤ at → word_in_bytes bytes at ≡ pos 0
unfolding word_in_bytes unsigned_at
word_past bytes at h = rw (past at h, past (at + 1) (omega arith), past (at + 2) (omega arith), past (at + 3) (omega arith))
  where
    past : (i : ℕ) → length bytes ≤ i → byte_at bytes i ≡ 0
    past i = get_or-eq_default bytes 0

-- ---- words of two lists one after the other
pub word_front : (s r : List ℕ) (at : ℕ) → at + word_bytes ≤ length s → word_in_bytes (s ++ r) at ≡ word_in_bytes s at
unfolding word_in_bytes unsigned_at
word_front s r at h = rw (first at (omega arith), first (at + 1) (omega arith), first (at + 2) (omega arith), first (at + 3) (omega arith))
  where
    first : (i : ℕ) → i < length s → byte_at (s ++ r) i ≡ byte_at s i
    first i = get_or-append s r 0 i

pub word_behind : (s r : List ℕ) (n at : ℕ) → length s ≡ n → word_in_bytes (s ++ r) (n + at) ≡ word_in_bytes r at
unfolding word_in_bytes unsigned_at
word_behind s r n at long = rw (second at, next 1, next 2, next 3)
  where
    second : (i : ℕ) → byte_at (s ++ r) (n + i) ≡ byte_at r i
    second i = rw (← long) (get_or-append-add s r i 0)

    next : (i : ℕ) → byte_at (s ++ r) (n + at + i) ≡ byte_at r (at + i)
    next i = rw add_assoc (second (at + i))

-- ---- a word read and written byte by byte
pub word_read : (bytes : List ℕ) (at : ℕ) {a b c d : ℕ} → a ≡ byte_at bytes at → b ≡ byte_at bytes (at + 1) → c ≡ byte_at bytes (at + 2) → d ≡ byte_at bytes (at + 3)
    → to_z w32 (a + 256 * (b + 256 * (c + 256 * d))) ≡ word_in_bytes bytes at
unfolding word_in_bytes unsigned_at
word_read bytes at ea eb ec ed = rw (ea, eb, ec, ed)

pub word_stored : (bytes : List ℕ) (at : ℕ) (z : ℤ) → at + word_bytes ≤ length bytes → let n = of_z w32 z in
    set (set (set (set bytes at (n % 256)) (at + 1) (n / 256 % 256)) (at + 2) (n / 256 / 256 % 256)) (at + 3) (n / 256 / 256 / 256 % 256) ≡ put bytes at word_bytes (bytes_of z)
unfolding bytes_of four_bytes
word_stored bytes at z fits = rw (add-one, add-two, add-three) (sets_put bytes at (four_bytes (of_z w32 z)) fits)
