-- The sheet: a header of 16 bytes, then a record of 24 bytes for each cell. What a clock and cells are as bytes, and what bytes are read as.
use Rattle.std.specs.Prelude.{List, [], ◌∷◌, ◌++◌, ℕ, zero, suc, ◌+◌, ◌*◌, ℤ, pos, length}
use Rattle.words.specs.Words.{nat_of}
use Rattle.track.specs.declared.cell.Cell.{Cell}
use Rattle.sheet.specs.Bytes.{bytes_of, word_in_bytes}

-- ---- sizes
abbrev pub header_bytes : ℕ
header_bytes = 16

abbrev pub record_bytes : ℕ
record_bytes = 24

-- where record k starts
abbrev pub record_start : ℕ → ℕ
record_start k = header_bytes + record_bytes * k

-- the total length of a sheet of n cells
abbrev pub total_for : ℕ → ℕ
total_for n = header_bytes + record_bytes * n

-- ---- a clock and cells as bytes
-- words one after the other
unfoldable pub bytes_of_all : List ℤ → List ℕ
bytes_of_all [] = []
bytes_of_all (z ∷ words) = bytes_of z ++ bytes_of_all words

-- the numbers of a header: count, offset of the cells, clock, total length
abbrev pub header_numbers : ℤ → ℕ → List ℤ
header_numbers clock n = pos n ∷ pos header_bytes ∷ clock ∷ pos (total_for n) ∷ []

-- the numbers of a record
abbrev pub cell_numbers : Cell → List ℤ
cell_numbers c = c.id ∷ c.x ∷ c.vx ∷ c.y ∷ c.vy ∷ c.expiry.at ∷ []

abbrev pub header_of : ℤ → ℕ → List ℕ
header_of clock n = bytes_of_all (header_numbers clock n)

abbrev pub record_of : Cell → List ℕ
record_of c = bytes_of_all (cell_numbers c)

unfoldable pub records_of : List Cell → List ℕ
records_of [] = []
records_of (c ∷ cells) = record_of c ++ records_of cells

unfoldable pub sheet_of : ℤ → List Cell → List ℕ
sheet_of clock cells = header_of clock (length cells) ++ records_of cells

-- ---- what bytes are read as
abbrev pub count_word : List ℕ → ℤ
count_word bytes = word_in_bytes bytes 0

abbrev pub offset_word : List ℕ → ℤ
offset_word bytes = word_in_bytes bytes 4

abbrev pub clock_of : List ℕ → ℤ
clock_of bytes = word_in_bytes bytes 8

abbrev pub total_word : List ℕ → ℤ
total_word bytes = word_in_bytes bytes 12

abbrev pub record_count : List ℕ → ℕ
record_count bytes = nat_of (count_word bytes)

-- the cell whose record starts at `at`
unfoldable pub cell_from : List ℕ → ℕ → Cell
cell_from bytes at = record {
  id = word_in_bytes bytes at;
  x = word_in_bytes bytes (at + 4);
  vx = word_in_bytes bytes (at + 8);
  y = word_in_bytes bytes (at + 12);
  vy = word_in_bytes bytes (at + 16);
  expiry = record { at = word_in_bytes bytes (at + 20) };
}

-- the cell of record k
abbrev pub cell_at : List ℕ → ℕ → Cell
cell_at bytes k = cell_from bytes (record_start k)

-- the cells of the n records from record k on
unfoldable pub cells_from : List ℕ → ℕ → ℕ → List Cell
cells_from bytes k zero = []
cells_from bytes k (suc n) = cell_at bytes k ∷ cells_from bytes (suc k) n

abbrev pub cells_of : List ℕ → List Cell
cells_of bytes = cells_from bytes 0 (record_count bytes)
