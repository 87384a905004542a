-- The two passes of the writing, one law for each turn of their loops: cells are passed and counted, then their records are put one after the other.
use Rattle.std.specs.Prelude.{◌≡◌, refl, List, [], ◌∷◌, ℕ, ◌+◌, ◌≤◌, ◌<◌, ℤ, pos, length, Some, None}
use Rattle.std.proofs.Common.{sym, ap, ◌∙◌, not-suc-le-zero, arith, length-append}
use Rattle.words.specs.Parts.{put}
use Rattle.track.specs.declared.cell.Cell.{Cell}
use Rattle.table.specs.Header.{clock, greatest_capacity}
use Rattle.table.specs.Sound.{Sound}
use Rattle.sheet.specs.Sheet.{header_bytes, record_bytes, record_start, header_of, record_of}
use Rattle.sheet.specs.Laws.PutSheet.{SheetPut, put_long, header-put, record_put, sheet-put}
use Rattle.leafing.specs.NextLive.{NextLive}
use Rattle.leafing.specs.Laws.Leafed.{leafed_fixed, leafed_live}
use Rattle.leafing.specs.Laws.LiveCells.{live_few}
use Rattle.leafing.specs.Laws.CellsPassed.{CellsPassed, pass_none, pass_end, pass_one, pass_few, pass_all}
use Rattle.sheet_write.specs.Inner.Passes.{CellsCounted, CanPutSheet, PutsSheet}

-- ---- the count: n cells were passed, and the leafing goes on from `last`
abbrev pub Counting : List ℤ → ℤ → ℕ → Type 0
Counting w last n = CellsPassed w last (λ cells. n ≡ length cells)

module _ {w : List ℤ} (sound : Sound w) {last : ℤ} {n : ℕ} (so_far : Counting w last n) where
  pub counting_next : (c : Cell) → NextLive w last (Some c) → Counting w c.id (n + 1)
  counting_next c next = pass_one sound so_far c next (simp length-append (omega (arith, so_far.holds)))

  -- as many as a table may hold are not counted yet
  pub counting_few : (c : Cell) → NextLive w last (Some c) → n < greatest_capacity
  counting_few c next = omega (arith, so_far.holds, pass_few sound so_far c next)

  pub counting_all : NextLive w last None → CellsCounted w n
  counting_all next = record { cells = so_far.cells; leafed = pass_all so_far (pass_end sound so_far next); count = so_far.holds }

pub counted_few : {w : List ℤ} {n : ℕ} → Sound w → CellsCounted w n → n ≤ greatest_capacity
counted_few sound c = omega (arith, c.count, live_few sound (leafed_live sound c.leafed))

-- ---- the bytes: the records of the k cells passed are written
pub record RecordsPut (w : List ℤ) (bytes : List ℕ) (n k : ℕ) (t : List ℕ) (cells : List Cell) : Type 0 where
  pub count : k ≡ length cells
  pub so_put : SheetPut bytes t (clock w) n cells

abbrev pub Putting : List ℤ → List ℕ → ℕ → ℤ → ℕ → List ℕ → Type 0
Putting w bytes n last k t = CellsPassed w last (RecordsPut w bytes n k t)

-- the same told of the bytes as the header left them, whatever stood there before
pub record PuttingOn (w : List ℤ) (headed : List ℕ) (n : ℕ) (last : ℤ) (k : ℕ) (t : List ℕ) : Type 0 where
  pub on : (bytes : List ℕ) → CanPutSheet w bytes n → headed ≡ put bytes 0 header_bytes (header_of (clock w) n) → Putting w bytes n last k t

module _ {w : List ℤ} {bytes : List ℕ} {n : ℕ} (can : CanPutSheet w bytes n) where
  pub putting_none : {t : List ℕ} → t ≡ put bytes 0 header_bytes (header_of (clock w) n) → Putting w bytes n (pos 0) 0 t
  putting_none e = pass_none can.sound (record { count = refl; so_put = header-put (omega (arith, can.room)) e })

  module _ {last : ℤ} {k : ℕ} {t : List ℕ} (so_far : Putting w bytes n last k t) where
    pub record_fits : k < n → record_start k + record_bytes ≤ length t
    record_fits lt = omega (arith, can.room, put_long so_far.holds.so_put)

    pub putting_next : k < n → (c : Cell) → NextLive w last (Some c) → {u : List ℕ} → u ≡ put t (record_start k) record_bytes (record_of c) → Putting w bytes n c.id (k + 1) u
    putting_next lt c next e = pass_one can.sound so_far c next (record {
      count = simp length-append (omega (arith, so_far.holds.count));
      so_put = record_put c so_far.holds.so_put (omega (arith, can.room, so_far.holds.count)) (rw so_far.holds.count at e);
    })

    -- all that were counted are passed or left
    all : n ≡ length so_far.cells + length so_far.left
    all = can.counted.count ∙ ap length (leafed_fixed can.counted.leafed so_far.leafed) ∙ length-append so_far.cells so_far.left

    -- all are written where none is left
    pub putting_ends : NextLive w last None → n ≤ k
    putting_ends next = omega (arith, all, so_far.holds.count, ap length (pass_end can.sound so_far next))

    -- so a cell is left as long as not all are written
    pub putting_goes_on : k < n → NextLive w last None → ⊥
    putting_goes_on lt next = omega (arith, putting_ends next)

    pub putting_all : n ≤ k → PutsSheet w bytes n t
    putting_all le = record {
      cells = so_far.cells;
      leafed = pass_all so_far (no_cell_left so_far.left (omega (arith, all, so_far.holds.count)));
      count = many;
      is = rw many (sheet-put so_far.holds.so_put (sym many));
      as_long = put_long so_far.holds.so_put;
    }
      where
        no_cell_left : (l : List Cell) → length l ≤ 0 → l ≡ []
        no_cell_left [] h = refl
        no_cell_left (c ∷ l) h = absurd (not-suc-le-zero h)

        many : n ≡ length so_far.cells
        many = omega (arith, all, so_far.holds.count)
