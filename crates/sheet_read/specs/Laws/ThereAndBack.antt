-- There and back: a sheet that was read is written as the same bytes, and a table that was written is read back with the same clock and live cells.
use Rattle.std.specs.Prelude.{◌≡◌, ◌↔◌, List, ◌++◌, ℕ, ◌≤◌, ℤ, length, take, drop, Result}
use Rattle.std.proofs.Common.{sym, ap, ◌∙◌, arith}
use Rattle.words.specs.Words.{nat_of}
use Rattle.track.specs.Numbers.{most_cells}
use Rattle.track.specs.declared.cell.Cell.{Cell}
use Rattle.table.specs.Header.{IsCapacity, clock, words_for}
use Rattle.table.specs.Sound.{Sound, Live}
use Rattle.sheet.specs.Bytes.{AreBytes}
use Rattle.sheet.specs.Sheet.{total_for, sheet_of, record_count, cells_of}
use Rattle.sheet.specs.Laws.Sheet.{sheet_back, length_is, length-cells_from}
use Rattle.sheet.specs.WellFormed.{SheetSound}
use Rattle.leafing.specs.Laws.LiveCells.{live_same_list}
use Rattle.sheet_write.specs.Written.{written_total, Writes, WritesSheet}
use Rattle.sheet_write.specs.Laws.Written.{write_accepted}
use Rattle.sheet_write.specs.Laws.SheetWritten.{written_sheet}
use Rattle.sheet_read.specs.Reads.{IsRead, ReadsSheet}
use Rattle.sheet_read.specs.Inner.ReadingSteps.{CanRead}
use Rattle.sheet_read.specs.Laws.ReadingSteps.{read_done, accepted_can, read_live}
use Rattle.track.specs.declared.refusal.Refusal.{Refusal}
use Rattle.track.specs.Refusals.{number_of}

-- ---- a well-formed sheet that was read is written as it was, in the first bytes of any buffer that is long enough
module _ {cells : ℤ} {w : List ℤ} {bytes : List ℕ} {v : List ℤ} (small : AreBytes bytes) (sheet : SheetSound most_cells bytes) (read : IsRead cells w bytes v) where
  pub read_then_written : {buffer : List ℕ} {total : ℕ} {buffer' : List ℕ} → Writes v buffer total buffer' → (total ≡ length bytes) × (buffer' ≡ bytes ++ drop (length bytes) buffer)
  read_then_written {buffer} {total} {buffer'} p =
      let same : p.cells ≡ cells_of bytes = live_same_list (λ c. (λ x. x, λ x. x)) p.live (read_live sheet.records read) in
      let many : length p.cells ≡ record_count bytes = ap length same ∙ length-cells_from bytes 0 (record_count bytes) in
      let long : total ≡ length bytes = p.total_is ∙ ap total_for many ∙ sym (length_is bytes small most_cells sheet.header) in
      let first : sheet_of (clock v) p.cells ≡ bytes = rw (read.clock_is, same) (sheet_back bytes small most_cells sheet.header) in
      (long, p.written ∙ rw (first, long))

-- ---- a sound table that was written is read back with the same clock and live cells, by a table of any capacity that has room for them
module _ {w : List ℤ} (sound : Sound w) {buffer : List ℕ} {total : ℕ} {buffer' : List ℕ} (p : Writes w buffer total buffer') where
  abbrev sheet : List ℕ
  sheet = take total buffer'

  -- it is not refused
  pub written_can_read : {cells : ℤ} {t : List ℤ} → IsCapacity cells → words_for (nat_of cells) ≤ length t → total ≤ total_for (nat_of cells) → CanRead cells t sheet
  written_can_read {cells} capacity long room =
      let same = live_same_list (λ c. (λ x. x, λ x. x)) (written_sheet sound p).live p.live in
      record {
        capacity_in = capacity;
        long_enough = long;
        well_formed = (written_sheet sound p).well_formed;
        few = omega (arith, ap length same, length-cells_from sheet 0 (record_count sheet), p.total_is);
      }

  pub written_then_read : {cells : ℤ} {t v : List ℤ} → IsRead cells t sheet v → (clock v ≡ clock w) × ((c : Cell) → Live v c ↔ Live w c)
  written_then_read {v} read =
      let there = written_sheet sound p in
      let back = read_live there.well_formed.records read in
      (read.clock_is ∙ there.clock_is, λ c. (λ l. there.live.only c (back.all c l), λ l. back.only c (there.live.all c l)))

-- ---- the same of the calls
-- an accepted sheet is written again into any buffer that is as long or longer: its own bytes, and no others
pub sheet_back_again : {cells : ℤ} {w : List ℤ} {bytes : List ℕ} {r : Result (Unit {0}) Refusal} {v : List ℤ} {buffer : List ℕ} {s : Result ℕ Refusal} {buffer' : List ℕ} → AreBytes bytes
    → ReadsSheet cells w bytes r v → number_of r ≡ 0 → length bytes ≤ length buffer → WritesSheet v buffer s buffer'
    → (number_of s ≡ 0) × (written_total s ≡ length bytes) × (buffer' ≡ bytes ++ drop (length bytes) buffer)
sheet_back_again {cells} {w} {bytes} {r} small read accepted room p =
    let is = read.accepted accepted in
    let can : CanRead cells w bytes = accepted_can (number_of r) read.refusal accepted in
    let sheet = can.well_formed in
    let live = read_live sheet.records is in
    let many = length-cells_from bytes 0 (record_count bytes) in
    let done = write_accepted is.sound live (omega (arith, many, length_is bytes small most_cells sheet.header)) p in
    let back = read_then_written small sheet is (p.accepted done) in
    (done, back.0, back.1)

-- what was written of a sound table is read back into any words for a table whose sheet may be as long or longer
pub table_back_again : {w : List ℤ} {buffer : List ℕ} {s : Result ℕ Refusal} {buffer' : List ℕ} {cells : ℤ} {t : List ℤ} {r : Result (Unit {0}) Refusal} {v : List ℤ} → Sound w
    → WritesSheet w buffer s buffer' → number_of s ≡ 0 → IsCapacity cells → words_for (nat_of cells) ≤ length t → written_total s ≤ total_for (nat_of cells)
    → ReadsSheet cells t (take (written_total s) buffer') r v → (number_of r ≡ 0) × (clock v ≡ clock w) × ((c : Cell) → Live v c ↔ Live w c)
table_back_again sound p accepted capacity long room read =
    let a = p.accepted accepted in
    let done = read_done (written_can_read sound a capacity long room) read in
    let back = written_then_read sound a (read.accepted done) in
    (done, back.0, back.1)
