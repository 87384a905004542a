-- The loop that writes words one after the other: what holds after each turn.
use Rattle.std.specs.Prelude.{◌≡◌, List, [], ◌∷◌, ◌++◌, ℕ, ◌+◌, ◌*◌, ◌≤◌, ◌<◌, ℤ, pos, length, get_or, take}
use Rattle.std.proofs.Common.{add-one, arith, take-suc, take_all, length-take-le}
use Rattle.words.specs.Parts.{put}
use Rattle.words.specs.Inner.InLine.{PutInLine}
use Rattle.words.specs.Laws.InLine.{none_in_line, one_in_line}
use Rattle.sheet.specs.Bytes.{word_bytes, bytes_of}
use Rattle.sheet.specs.Sheet.{bytes_of_all}
use Rattle.sheet.specs.Laws.Sheet.{word_pieces}

-- the first j words are written to w from `at` on, which made it t
pub record WordsPut (w t : List ℕ) (at : ℕ) (words : List ℤ) (j : ℕ) : Type 0 where
  pub upto : j ≤ length words
  pub in_line : PutInLine bytes_of_all word_bytes w at (take j words) t

pub none_put : {w : List ℕ} {at : ℕ} {words : List ℤ} → WordsPut w w at words 0
none_put {w} {at} = record { upto = omega arith; in_line = none_in_line word_pieces w at }

pub word_put : {w t u : List ℕ} {at : ℕ} {words : List ℤ} {j : ℕ} → WordsPut w t at words j → j < length words → at + word_bytes * length words ≤ length w
    → u ≡ put t (at + word_bytes * j) word_bytes (bytes_of (get_or words j (pos 0))) → WordsPut w u at words (j + 1)
word_put {w} {t} {u} {at} {words} {j} so_far h fits e = record {
  upto = omega arith;
  in_line = rw next (one_in_line word_pieces (get_or words j (pos 0)) so_far.in_line (rw many (omega arith)) (rw many e));
}
  where
    many : length (take j words) ≡ j
    many = length-take-le j words so_far.upto

    next : take (j + 1) words ≡ take j words ++ (get_or words j (pos 0) ∷ [])
    next = rw (add-one, take-suc words j (pos 0) h)

pub all_put : {w t : List ℕ} {at : ℕ} {words : List ℤ} {j : ℕ} → WordsPut w t at words j → length words ≤ j
    → t ≡ put w at (word_bytes * length words) (bytes_of_all words)
all_put {words} {j} so_far h =
    let e : j ≡ length words = omega (arith, so_far.upto) in
    rw (e, take_all (length words) words (omega arith)) at so_far.in_line.is
