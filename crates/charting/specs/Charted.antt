-- To chart a table is to write its text, its live cells as lines of well-known text: when it is refused, and what is left in the lent bytes. The table is only
-- read.
use Rattle.std.specs.Prelude.{◌≡◌, List, [], ◌∷◌, ◌++◌, ℕ, ◌<◌, ℤ, length, drop, Result}
use Rattle.track.specs.Refusals.{Reason}
use Rattle.track.specs.declared.cell.Cell.{Cell}
use Rattle.table.specs.Header.{clock}
use Rattle.leafing.specs.Leafed.{LiveCells}
use Rattle.sheet_write.specs.Written.{table_reasons, WritesTable}
use Rattle.wkt.specs.Metres.{stands_at}
use Rattle.wkt.specs.TrackLine.{TrackForm, LineOf}
use Rattle.track.specs.declared.refusal.Refusal.{Refusal}

-- the lines of these cells, one after the other
pub data TextOf (clock : ℤ) : List Cell → List ℕ → Type 0 where
  no_line : TextOf clock [] []
  line_then : {c : Cell} {cells : List Cell} {line text : List ℕ} → LineOf clock c line → TextOf clock cells text → TextOf clock (c ∷ cells) (line ++ text)

-- the same where each of them has a LINESTRING. `never_a_point` (Laws/NeverAPoint): the text of live cells is one
pub data LineStringsOf (clock : ℤ) : List Cell → List ℕ → Type 0 where
  no_line_string : LineStringsOf clock [] []
  line_string_then : {c : Cell} {cells : List Cell} {line text : List ℕ} → TrackForm (stands_at c clock) (stands_at c c.expiry.at) line
      → LineStringsOf clock cells text → LineStringsOf clock (c ∷ cells) (line ++ text)

-- the table's whole text is longer than n bytes
pub record LongerText (n : ℕ) (w : List ℤ) : Type 0 where
  pub cells : List Cell
  pub live : LiveCells w cells
  pub text : List ℕ
  pub is_text : TextOf (clock w) cells text
  pub longer : n < length text

-- a text is written, or refused, as a sheet is
abbrev pub chart_reasons : List ℤ → List ℕ → List Reason
chart_reasons w bytes = table_reasons w (LongerText (length bytes) w)

-- the text of the live cells, by rising identifier, stands in the first bytes, as many as the total, and the others are as they were
pub record Charts (w : List ℤ) (bytes : List ℕ) (total : ℕ) (bytes' : List ℕ) : Type 0 where
  pub cells : List Cell
  pub live : LiveCells w cells
  pub text : List ℕ
  pub is_text : TextOf (clock w) cells text
  pub total_is : total ≡ length text
  pub written : bytes' ≡ text ++ drop total bytes

abbrev pub ChartsTracks : List ℤ → List ℕ → Result ℕ Refusal → List ℕ → Type 0
ChartsTracks w bytes = WritesTable w (LongerText (length bytes) w) (Charts w bytes) bytes
