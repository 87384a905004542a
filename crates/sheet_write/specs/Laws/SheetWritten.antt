-- The sheet that was written: it is well formed, and reads as the table's clock and live cells, and no others.
use Rattle.std.specs.Prelude.{◌≡◌, refl, List, [], ◌∷◌, ℕ, ◌<◌, ℤ, length, take, drop}
use Rattle.std.proofs.Common.{sym, ap, ◌∙◌, arith, take_all}
use mathlib.Core.List.Memᴰ
use Rattle.std.proofs.lemmas.List.{take-append-le}
use Rattle.track.specs.Numbers.{most_cells}
use Rattle.track.specs.Life.{LivesAt}
use Rattle.track.specs.declared.cell.Cell.{Cell}
use Rattle.whole.specs.Lists.{◌∈◌}
use Rattle.table.specs.Header.{clock}
use Rattle.table.specs.Sound.{Sound, Live}
use Rattle.sheet.specs.Sheet.{header_bytes, total_for, sheet_of, cells_of}
use Rattle.sheet.specs.Laws.Sheet.{length-sheet_of, clock-of-sheet, cells-of-sheet, sheet_sound}
use Rattle.sheet.specs.WellFormed.{CellsSound}
use Rattle.leafing.specs.Leafed.{LiveCells}
use Rattle.leafing.specs.Laws.LiveCells.{live_in_range, live_few}
use Rattle.sheet_write.specs.Written.{Writes, SheetOfTable}

-- the live cells of a sound table may stand on a sheet
pub live_sound : {w : List ℤ} {cells : List Cell} → Sound w → LiveCells w cells → CellsSound (clock w) cells
live_sound sound live = record { in_range = λ c m. live_in_range sound (live.only c m); in_life = λ c m. (live.only c m).in_life; rising = live.rising }

module _ {w : List ℤ} (sound : Sound w) {bytes : List ℕ} {total : ℕ} {bytes' : List ℕ} (p : Writes w bytes total bytes') where
  -- the first bytes, as many as the total, are the sheet of the live cells
  pub first_bytes : take total bytes' ≡ sheet_of (clock w) p.cells
  first_bytes =
      let sheet = sheet_of (clock w) p.cells in
      let long : length sheet ≡ total = length-sheet_of (clock w) p.cells ∙ sym p.total_is in
      ap (take total) p.written ∙ take-append-le total sheet (drop total bytes) (omega (arith, long)) ∙ take_all total sheet (omega (arith, long))

  pub written_sheet : SheetOfTable w (take total bytes')
  written_sheet =
      let few = live_few sound p.live in
      let short : total_for (length p.cells) < 2147483648 = omega (arith, few) in
      let cells = live_sound sound p.live in
      let minute = sound.clock_in in
      rw first_bytes (record {
        well_formed = sheet_sound (clock w) p.cells minute short most_cells few cells;
        clock_is = clock-of-sheet (clock w) p.cells minute short;
        live = rw (cells-of-sheet (clock w) p.cells minute short cells) p.live;
      })

  -- so no expired cell is written
  pub none_expired : (c : Cell) → c ∈ cells_of (take total bytes') → LivesAt (clock w) c
  none_expired c m = (written_sheet.live.only c m).in_life

-- a table with no live cell gives a header alone
pub no_live_cell : {w : List ℤ} {bytes : List ℕ} {total : ℕ} {bytes' : List ℕ} → ((c : Cell) → Live w c → ⊥) → Writes w bytes total bytes' → total ≡ header_bytes
no_live_cell none p = p.total_is ∙ ap (λ (l : List Cell). total_for (length l)) (empty p.cells (λ c m. none c (p.live.only c m)))
  where
    empty : (l : List Cell) → ((c : Cell) → c ∈ l → ⊥) → l ≡ []
    empty [] no_member = refl
    empty (c ∷ l) no_member = absurd (no_member c (Memᴰ.head refl))
