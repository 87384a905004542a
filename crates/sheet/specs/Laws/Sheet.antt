-- A sheet there and back: bytes that are well formed are the sheet of their clock and cells, and a sheet is read as the clock and cells it is of.
use Rattle.std.specs.Prelude.{◌≡◌, ℤ, nat_abs, length, get_or}
use Rattle.std.proofs.Math.Path.{refl, sym, ap}
use Rattle.std.proofs.Common.{ap₂, ◌∙◌, add-zero, length-append, le→leb, SFits}
use mathlib.Core.List.Memᴰ
use mathlib.Core.List.{List, [], ◌∷◌, ◌++◌, append_assoc}
use Prim.Native.Nat.{ℕ, zero, suc, ◌+◌, ◌*◌, ◌/◌, ◌≤◌, ◌<◌}
use native.Mathlib.Omega.{arith}
use Rattle.std.proofs.Math.Nat.{add_assoc}
use Rattle.std.proofs.Math.IntN.{pos}
use Rattle.std.proofs.Math.Seq.{take_all}
use Rattle.std.specs.Int.Signed.{le_z_yes}
use Rattle.std.specs.Int.{w32}
use Rattle.whole.specs.Lists.{◌∈◌}
use Rattle.whole.specs.Laws.Within.{fits}
use Rattle.words.specs.Parts.{part}
use Rattle.words.specs.Inner.InLine.{Pieces}
use Rattle.words.specs.Laws.InLine.{length_pieces}
use Rattle.words.specs.Laws.Parts.{part_add}
use Rattle.words.specs.Words.{nat_of}
use Rattle.words.specs.Laws.Words.{pos-nat_of}
use Rattle.track.specs.Numbers.{IsMinute}
use Rattle.track.specs.Laws.Numbers.{minute_in, identifier_in}
use Rattle.track.specs.Life.{no_cell, CellInRange}
use Rattle.track.specs.declared.cell.Cell.{Cell}
use Rattle.sheet.specs.Bytes.{AreBytes, word_bytes, bytes_of, word_in_bytes}
use Rattle.sheet.specs.Laws.Bytes.{length-bytes_of, bytes_of_word, word_of_bytes, word_front, word_behind, word_past}
use Rattle.sheet.specs.Sheet.{header_bytes, record_bytes, record_start, total_for, bytes_of_all, header_numbers, cell_numbers, header_of, record_of, records_of, sheet_of, count_word, clock_of, record_count, cell_from, cell_at, cells_from, cells_of}
use Rattle.sheet.specs.WellFormed.{HeaderSound, CellsSound, SheetSound}

-- ---- lengths
pub word_pieces : Pieces bytes_of word_bytes bytes_of_all
unfolding bytes_of_all
word_pieces = record { none = refl; more = λ z words. refl; size_is = length-bytes_of }

pub length-bytes_of_all : (words : List ℤ) → length (bytes_of_all words) ≡ word_bytes * length words
length-bytes_of_all = length_pieces word_pieces

pub length-record_of : (c : Cell) → length (record_of c) ≡ record_bytes
length-record_of c = length-bytes_of_all (cell_numbers c)

pub record_pieces : Pieces record_of record_bytes records_of
unfolding records_of
record_pieces = record { none = refl; more = λ c cells. refl; size_is = length-record_of }

length-records_of : (cells : List Cell) → length (records_of cells) ≡ record_bytes * length cells
length-records_of = length_pieces record_pieces

pub length-sheet_of : (clock : ℤ) (cells : List Cell) → length (sheet_of clock cells) ≡ total_for (length cells)
unfolding sheet_of
length-sheet_of clock cells = simp length-append (omega (arith, length-bytes_of_all (header_numbers clock (length cells)), length-records_of cells))

pub length-cells_from : (bytes : List ℕ) (k n : ℕ) → length (cells_from bytes k n) ≡ n
unfolding cells_from
length-cells_from bytes k zero = refl
length-cells_from bytes k (suc n) = ap suc (length-cells_from bytes (suc k) n)

-- ---- from bytes to numbers and back
-- the n words from `at` on
unfoldable words_from : List ℕ → ℕ → ℕ → List ℤ
words_from bytes at zero = []
words_from bytes at (suc n) = word_in_bytes bytes at ∷ words_from bytes (at + word_bytes) n

part_none : (bytes : List ℕ) (at : ℕ) → part bytes at 0 ≡ []
unfolding part
part_none bytes at = refl

module _ (bytes : List ℕ) (small : AreBytes bytes) where
  words_back : (at n : ℕ) → at + word_bytes * n ≤ length bytes → bytes_of_all (words_from bytes at n) ≡ part bytes at (word_bytes * n)
  unfolding words_from bytes_of_all
  words_back at zero inside = sym (part_none bytes at)
  words_back at (suc n) inside =
      let more : word_bytes * suc n ≡ word_bytes + word_bytes * n = omega arith in
      rw (more, part_add bytes at word_bytes (word_bytes * n))
      (ap₂ ◌++◌ (bytes_of_word bytes at small (omega arith)) (words_back (at + word_bytes) n (omega arith)))

  record_back : (at : ℕ) → at + record_bytes ≤ length bytes → record_of (cell_from bytes at) ≡ part bytes at record_bytes
  unfolding cell_from words_from
  record_back at inside = simp add_assoc at (words_back at 6 inside)

  records_back : (k n : ℕ) → record_start k + record_bytes * n ≤ length bytes → records_of (cells_from bytes k n) ≡ part bytes (record_start k) (record_bytes * n)
  unfolding cells_from records_of
  records_back k zero inside = sym (part_none bytes (record_start k))
  records_back k (suc n) inside =
      let more : record_bytes * suc n ≡ record_bytes + record_bytes * n = omega arith in
      let next : record_start k + record_bytes ≡ record_start (suc k) = omega arith in
      rw (more, part_add bytes (record_start k) record_bytes (record_bytes * n), next)
      (ap₂ ◌++◌ (record_back (record_start k) (omega arith)) (records_back (suc k) n (omega arith)))

  module _ (limit : ℕ) (sound : HeaderSound limit bytes) where
    count_is : count_word bytes ≡ pos (record_count bytes)
    count_is = sym (pos-nat_of (count_word bytes) sound.count_in.from)

    pub length_is : length bytes ≡ total_for (record_count bytes)
    length_is = ap nat_abs (sym sound.total_given ∙ sound.total_is)

    header_back : header_of (clock_of bytes) (record_count bytes) ≡ part bytes 0 header_bytes
    unfolding words_from
    header_back = rw (count_is, sound.offset_is, sound.total_is) at (words_back 0 4 sound.whole_header)

    -- a sheet with a sound header is that of its clock and cells
    pub sheet_back : sheet_of (clock_of bytes) (cells_of bytes) ≡ bytes
    unfolding sheet_of part
    sheet_back =
        let n = record_count bytes in
        rw (length-cells_from bytes 0 n, header_back, records_back 0 n (omega (arith, length_is)))
        (sym (part_add bytes 0 header_bytes (record_bytes * n)) ∙ take_all (total_for n) bytes (omega (arith, length_is)))

-- ---- a record past the end is read as zeros
pub cell_past : (bytes : List ℕ) (k : ℕ) → length bytes / record_bytes < k
    → cell_at bytes k ≡ no_cell
unfolding cell_from
cell_past bytes k h =
    rw (past (record_start k) (omega arith), past (record_start k + 4) (omega arith), past (record_start k + 8) (omega arith), past (record_start k + 12) (omega arith), past (record_start k + 16) (omega arith), past (record_start k + 20) (omega arith))
  where
    past : (at : ℕ) → length bytes ≤ at → word_in_bytes bytes at ≡ pos 0
    past = word_past bytes

-- ---- from numbers to bytes and back
abbrev AllFit : List ℤ → Type 0
AllFit [] = Unit {0}
AllFit (z ∷ words) = SFits w32 z × AllFit words

-- words that stand behind `before` and in front of `after` are read as they are
words_read : (words : List ℤ) (before after : List ℕ) (at : ℕ) → length before ≡ at → AllFit words
    → words_from (before ++ (bytes_of_all words ++ after)) at (length words) ≡ words
unfolding words_from bytes_of_all
words_read [] before after at long fit = refl
words_read (z ∷ words) before after at long fit =
    ap₂ {C = List ℤ} (λ y l. y ∷ l) first
    (ap (λ (l : List ℕ). words_from l (at + word_bytes) (length words)) moved ∙ words_read words (before ++ bytes_of z) after (at + word_bytes) next fit.1)
  where
    moved : before ++ ((bytes_of z ++ bytes_of_all words) ++ after) ≡ (before ++ bytes_of z) ++ (bytes_of_all words ++ after)
    moved = simp append_assoc

    first : word_in_bytes (before ++ ((bytes_of z ++ bytes_of_all words) ++ after)) at ≡ z
    first =
        ap (word_in_bytes (before ++ ((bytes_of z ++ bytes_of_all words) ++ after))) (sym (add-zero at))
        ∙ word_behind before ((bytes_of z ++ bytes_of_all words) ++ after) at 0 long
        ∙ rw (append_assoc (bytes_of z) (bytes_of_all words) after)
        (word_front (bytes_of z) (bytes_of_all words ++ after) 0 (omega (arith, length-bytes_of z)) ∙ word_of_bytes z fit.0)

    next : length (before ++ bytes_of z) ≡ at + word_bytes
    next = simp length-append (omega (arith, long, length-bytes_of z))

-- a cell's numbers and the cell
cell_of_numbers : List ℤ → Cell
cell_of_numbers ns = record {
  id = get_or ns 0 (pos 0);
  x = get_or ns 1 (pos 0);
  vx = get_or ns 2 (pos 0);
  y = get_or ns 3 (pos 0);
  vy = get_or ns 4 (pos 0);
  expiry = record { at = get_or ns 5 (pos 0) };
}

cell_read : (c : Cell) (before after : List ℕ) (at : ℕ) → length before ≡ at → AllFit (cell_numbers c) → cell_from (before ++ (record_of c ++ after)) at ≡ c
unfolding cell_from words_from cell_of_numbers
cell_read c before after at long fit = ap cell_of_numbers (simp add_assoc at (words_read (cell_numbers c) before after at long fit))

cells_read : (cells : List Cell) (before : List ℕ) (k : ℕ) → length before ≡ record_start k → ((c : Cell) → c ∈ cells → AllFit (cell_numbers c))
    → cells_from (before ++ records_of cells) k (length cells) ≡ cells
unfolding cells_from records_of
cells_read [] before k long fit = refl
cells_read (c ∷ cells) before k long fit =
    ap₂ {C = List Cell} (λ y l. y ∷ l) (cell_read c before (records_of cells) (record_start k) long (fit c (Memᴰ.head refl)))
    (ap (λ (l : List ℕ). cells_from l (suc k) (length cells)) (sym (append_assoc before (record_of c) (records_of cells)))
    ∙ cells_read cells (before ++ record_of c) (suc k) next (λ d m. fit d (Memᴰ.tail m)))
  where
    next : length (before ++ record_of c) ≡ record_start (suc k)
    next = simp length-append (omega (arith, long, length-record_of c))

-- ---- what is in range fits a word
cell_fits : {c : Cell} → CellInRange c → AllFit (cell_numbers c)
cell_fits h = (
  fits tt (identifier_in h.identifier),
  (fits tt h.x_in, (fits tt h.vx_in, (fits tt h.y_in, (fits tt h.vy_in, (fits tt (minute_in h.expiry_in), tt))))),
)

count_fits_word : (n : ℕ) → n < 2147483648 → SFits w32 (pos n)
count_fits_word n h = record { sfits = h }

module _ (clock : ℤ) (cells : List Cell) (minute : IsMinute clock) (short : total_for (length cells) < 2147483648) where
  header_read : words_from (sheet_of clock cells) 0 4 ≡ header_numbers clock (length cells)
  unfolding sheet_of
  header_read =
      words_read (header_numbers clock (length cells)) [] (records_of cells) 0 refl
      (count_fits_word (length cells) (omega arith), (count_fits_word header_bytes (omega arith), (fits tt (minute_in minute), (count_fits_word (total_for (length cells)) short, tt))))

  number_read : (i : ℕ) → get_or (words_from (sheet_of clock cells) 0 4) i (pos 0) ≡ get_or (header_numbers clock (length cells)) i (pos 0)
  number_read i = ap (λ (l : List ℤ). get_or l i (pos 0)) header_read

  count_of_sheet : count_word (sheet_of clock cells) ≡ pos (length cells)
  unfolding words_from
  count_of_sheet = number_read 0

  pub clock-of-sheet : clock_of (sheet_of clock cells) ≡ clock
  unfolding words_from
  clock-of-sheet = number_read 2

  -- a sheet is read as the clock and cells it is of
  pub cells-of-sheet : CellsSound clock cells → cells_of (sheet_of clock cells) ≡ cells
  unfolding sheet_of nat_of
  cells-of-sheet sound =
      rw count_of_sheet (cells_read cells (header_of clock (length cells)) 0 (length-bytes_of_all (header_numbers clock (length cells))) (λ c m. cell_fits (sound.in_range c m)))

  -- and it is well formed
  pub sheet_sound : (limit : ℕ) → length cells ≤ limit → CellsSound clock cells → SheetSound limit (sheet_of clock cells)
  unfolding nat_of words_from
  sheet_sound limit few sound = record {
    header = record {
      whole_header = omega (arith, length-sheet_of clock cells);
      count_in = rw count_of_sheet (record { from = le_z_yes (le→leb 0 (length cells) (omega arith)); to = le_z_yes (le→leb (length cells) limit few) });
      offset_is = number_read 1;
      clock_in = rw clock-of-sheet minute;
      total_is = rw count_of_sheet (number_read 3);
      total_given = number_read 3 ∙ ap pos (sym (length-sheet_of clock cells));
    };
    records = rw (clock-of-sheet, cells-of-sheet sound) sound;
  }
