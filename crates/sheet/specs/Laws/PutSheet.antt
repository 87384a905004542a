-- How a sheet is written into lent bytes: the header, then record after record. What the bytes are after each, and in the end.
use Rattle.std.specs.Prelude.{◌≡◌, List, [], ◌∷◌, ◌++◌, ℕ, suc, ◌*◌, ◌≤◌, ℤ}
use Rattle.std.proofs.Math.Path.{ap}
use Rattle.std.proofs.Common.{◌∙◌, arith}
use Rattle.std.proofs.Math.ListN.{length}
use Rattle.words.specs.Parts.{put}
use Rattle.words.specs.Inner.InLine.{PutInLine}
use Rattle.words.specs.Laws.Parts.{put_beside, length-put}
use Rattle.words.specs.Laws.InLine.{none_in_line, one_in_line}
use Rattle.track.specs.declared.cell.Cell.{Cell}
use Rattle.sheet.specs.Sheet.{header_bytes, record_bytes, record_start, total_for, header_numbers, header_of, record_of, records_of, sheet_of}
use Rattle.sheet.specs.Laws.Sheet.{length-bytes_of_all, record_pieces}

-- the header of n cells and the records of these cells are written to the first bytes of w, which made it t
pub record SheetPut (w t : List ℕ) (clock : ℤ) (n : ℕ) (cells : List Cell) : Type 0 where
  pub room : header_bytes ≤ length w
  pub in_line : PutInLine records_of record_bytes (put w 0 header_bytes (header_of clock n)) header_bytes cells t

length_headed : (w : List ℕ) (clock : ℤ) (n : ℕ) → header_bytes ≤ length w → length (put w 0 header_bytes (header_of clock n)) ≡ length w
length_headed w clock n room = length-put w 0 header_bytes (header_of clock n) room (length-bytes_of_all (header_numbers clock n))

module _ {w : List ℕ} {clock : ℤ} {n : ℕ} where
  pub put_long : {t : List ℕ} {cells : List Cell} → SheetPut w t clock n cells → length t ≡ length w
  put_long so_far = so_far.in_line.long ∙ length_headed w clock n so_far.room

  pub header-put : {t : List ℕ} → header_bytes ≤ length w → t ≡ put w 0 header_bytes (header_of clock n) → SheetPut w t clock n []
  header-put room e = record { room = room; in_line = rw e (none_in_line record_pieces _ header_bytes) }

  pub record_put : {t u : List ℕ} {cells : List Cell} (c : Cell) → SheetPut w t clock n cells → total_for (suc (length cells)) ≤ length w
      → u ≡ put t (record_start (length cells)) record_bytes (record_of c) → SheetPut w u clock n (cells ++ (c ∷ []))
  record_put c so_far fits e =
      record { room = so_far.room; in_line = one_in_line record_pieces c so_far.in_line (omega (arith, length_headed w clock n so_far.room)) e }

  -- all of them: the sheet stands in the first bytes, and the others are as they were
  pub sheet-put : {t : List ℕ} {cells : List Cell} → SheetPut w t clock n cells → length cells ≡ n → t ≡ put w 0 (total_for (length cells)) (sheet_of clock cells)
  unfolding sheet_of
  sheet-put {t} {cells} so_far e =
      so_far.in_line.is
      ∙ put_beside w 0 header_bytes (header_of clock n) (record_bytes * length cells) (records_of cells) so_far.room (length-bytes_of_all (header_numbers clock n))
      ∙ ap (λ (m : ℕ). put w 0 (total_for (length cells)) (header_of clock m ++ records_of cells)) (rw e)
