-- Bytes written one run after the other: a word letter by letter, a number digit by digit.
use Rattle.std.specs.Prelude.{◌≡◌, refl, List, [], ◌∷◌, ◌++◌, ℕ, ◌+◌, ◌/◌, ◌%◌, ◌^◌, ◌≤◌, ◌<◌, ℤ, pos, neg_ℤ, length, get_or, take, drop, set, ◌≤ℤ◌, ◌<ℤ◌}
use Rattle.std.proofs.Common.{sym, ap, ◌∙◌, add-one, arith, length-append, take-suc, take_all}
use Rattle.std.proofs.Math.Seq.{take-length}
use Rattle.std.proofs.lemmas.List.{take-append-le}
use Rattle.words.specs.Words.{nat_of}
use Rattle.words.specs.Parts.{put}
use Rattle.words.specs.Laws.Parts.{length-put, put_beside, set_is_put, put_none}
use Rattle.decimal.specs.Decimal.{Decimal, one_digit, SignedDecimal}
use Rattle.decimal.specs.Laws.Decimal.{last_of, decimal_short}
use Rattle.decimal.specs.Laws.SignedDecimal.{signed_some, signed_exists, signed_plain, signed_minus}
use Rattle.decimal.specs.Inner.PutBytes.{EndsBy, Put, TheseBytes}

module _ {P : List ℕ → Type 0} {before after : List ℕ} {at r : ℕ} (p : Put P before at after r) where
  pub put_long : length after ≡ length before
  put_long = ap length p.is ∙ length-put before at (length p.bytes) p.bytes (omega (arith, p.end, p.fits)) refl

  pub put_within : (k : ℕ) → ((s : List ℕ) → P s → length s ≤ k) → r ≤ at + k
  put_within k short = omega (arith, p.end, short p.bytes p.spelt)

  -- and then others
  pub put_then : {Q R : List ℕ → Type 0} {last : List ℕ} {q : ℕ} → Put Q after r last q → ((a b : List ℕ) → P a → Q b → R (a ++ b)) → Put R before at last q
  put_then {last} {q} n join =
      let a = p.bytes in
      let b = n.bytes in
      let both = length-append a b in
      record {
        bytes = a ++ b;
        spelt = join a b p.spelt n.spelt;
        end = omega (arith, both, p.end, n.end);
        fits = omega (arith, n.fits, put_long);
        is = n.is ∙ rw (p.is, p.end, both) (put_beside before at (length a) a (length b) b (omega (arith, p.end, p.fits)) refl);
      }

  pub put_as : {R : List ℕ → Type 0} → ((s : List ℕ) → P s → R s) → Put R before at after r
  put_as turned = record { bytes = p.bytes; spelt = turned p.bytes p.spelt; end = p.end; fits = p.fits; is = p.is }

-- what was put at the start stands there
pub put_read : {P : List ℕ → Type 0} {before after : List ℕ} {r : ℕ} (p : Put P before 0 after r) → take r after ≡ p.bytes
unfolding put
put_read {before} p =
    let long : _ ≡ length p.bytes = p.end ∙ omega arith in
    rw (p.is, long) (take-append-le (length p.bytes) p.bytes (drop (length p.bytes) before) (omega arith) ∙ take_all (length p.bytes) p.bytes (omega arith))

pub put_nothing : {P : List ℕ → Type 0} {before : List ℕ} {at : ℕ} → P [] → at ≤ length before → Put P before at before at
put_nothing {before} {at} e h = record { bytes = []; spelt = e; end = omega arith; fits = h; is = sym (put_none before at) }

pub put_byte : {before : List ℕ} {at : ℕ} (b : ℕ) → at < length before → Put (TheseBytes (b ∷ [])) before at (set before at b) (at + 1)
put_byte {before} {at} b h = record { bytes = b ∷ []; spelt = refl; end = refl; fits = omega arith; is = set_is_put before at b h }

-- ---- a word, letter by letter
pub word_none : {before : List ℕ} {at : ℕ} → at ≤ length before → Put (TheseBytes []) before at before (at + 0)
word_none {at} h = let e : at + 0 ≡ at = omega arith in rw e (put_nothing refl h)

module _ (word : List ℕ) (i : ℕ) {before out : List ℕ} {at : ℕ} (p : Put (TheseBytes (take i word)) before at out (at + i)) where
  pub word_next : i < length word → at + length word ≤ length before → Put (TheseBytes (take (i + 1) word)) before at (set out (at + i) (get_or word i 0)) (at + (i + 1))
  word_next h room =
      let inside : at + i < length out = omega (arith, put_long p) in
      let next : at + i + 1 ≡ at + (i + 1) = omega arith in
      let longer : (a b : List ℕ) → a ≡ take i word → b ≡ get_or word i 0 ∷ [] → a ++ b ≡ take (i + 1) word = λ a b e f. rw (e, f, add-one, take-suc word i 0 h) in
      let grown : Put (TheseBytes (take (i + 1) word)) before at (set out (at + i) (get_or word i 0)) (at + i + 1) = put_then p (put_byte (get_or word i 0) inside) longer in
      rw next at grown

  pub word_all : i ≤ length word → length word ≤ i → Put (TheseBytes word) before at out (at + length word)
  word_all upto all =
      let e : i ≡ length word = omega arith in
      rw (e, take-length) at p

-- ---- digits: the last one is written after the others
module _ {n : ℕ} where
  pub room_one : {at end : ℕ} → n < 10 → EndsBy (Decimal n) at end → at < end
  room_one {at} h room = omega (arith, room ((48 + n) ∷ []) (one_digit (omega arith)))

  pub put_one : {before : List ℕ} {at : ℕ} (b : ℕ) → n < 10 → at < length before → b ≡ 48 + n → Put (Decimal n) before at (set before at b) (at + 1)
  put_one b h inside e = put_as (put_byte b inside) (λ s f. rw (f, e) (one_digit {d = n} (omega arith)))

  pub room_front : (at end : ℕ) → 10 ≤ n → EndsBy (Decimal n) at end → EndsBy (Decimal (n / 10)) at end
  room_front at end h room = λ s g. omega (arith, room (s ++ (48 + n % 10) ∷ []) (last_of n h g), length-append s ((48 + n % 10) ∷ []))

  module _ {before after : List ℕ} {at r : ℕ} (p : Put (Decimal (n / 10)) before at after r) where
    pub room_last : 10 ≤ n → EndsBy (Decimal n) at (length before) → r < length after
    room_last h room =
        let s = p.bytes in
        omega (arith, room (s ++ (48 + n % 10) ∷ []) (last_of n h p.spelt), length-append s ((48 + n % 10) ∷ []), p.end, put_long p)

    pub put_last : (b : ℕ) → 10 ≤ n → r < length after → b ≡ 48 + n % 10 → Put (Decimal n) before at (set after r b) (r + 1)
    put_last b h inside e = put_then p (put_byte b inside) (λ s t g f. rw (f, e) (last_of n h g))

-- whatever its number of ten digits
pub room_ten : {n : ℕ} (at end : ℕ) → n < 2 ^ 31 → at + 10 ≤ end → EndsBy (Decimal n) at end
room_ten at end small h = λ s g. omega (arith, decimal_short 9 g (omega arith))

pub ends_by_ten : {n : ℕ} {before after : List ℕ} {at r : ℕ} → n < 2 ^ 31 → Put (Decimal n) before at after r → r ≤ at + 10
ends_by_ten small p = put_within p 10 (λ s g. decimal_short 9 g (omega arith))

pub word_end : {word before after : List ℕ} {at r : ℕ} → Put (TheseBytes word) before at after r → r ≡ at + length word
word_end {at} p = p.end ∙ ap (λ (s : List ℕ). at + length s) p.spelt

-- ---- a whole number: digits alone, or digits after a minus
module _ {z : ℤ} {n : ℕ} where
  pub room_plain : (at end : ℕ) → pos 0 ≤ℤ z → n ≡ nat_of z → EndsBy (SignedDecimal z) at end → EndsBy (Decimal n) at end
  room_plain at end h e room = λ s g. room s (signed_plain z h (rw e at g))

  pub put_plain : {before after : List ℕ} {at r : ℕ} → pos 0 ≤ℤ z → n ≡ nat_of z → Put (Decimal n) before at after r → Put (SignedDecimal z) before at after r
  put_plain h e p = put_as p (λ s g. signed_plain z h (rw e at g))

  module _ (h : z <ℤ pos 0) (e : n ≡ nat_of (neg_ℤ z)) where
    pub room_minus : (at end : ℕ) → EndsBy (SignedDecimal z) at end → EndsBy (Decimal n) (at + 1) end
    room_minus at end room = λ s g. omega (arith, room (45 ∷ s) (signed_minus z h (rw e at g)))

    pub put_minus : {before after : List ℕ} {at r : ℕ} → at < length before → Put (Decimal n) (set before at 45) (at + 1) after r → Put (SignedDecimal z) before at after r
    put_minus inside p = put_then (put_byte 45 inside) p (λ s t f g. rw f (signed_minus z h (rw e at g)))

-- a minus has room where the number has
pub room_sign : (z : ℤ) (at end : ℕ) → EndsBy (SignedDecimal z) at end → at < end
room_sign z at end room = let s = signed_exists z in omega (arith, room s.0 s.1, signed_some s.1)
