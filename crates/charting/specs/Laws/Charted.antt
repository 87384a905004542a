-- The ways through the writing of a text, and that its answer is fixed.
use Rattle.std.specs.Prelude.{◌≡◌, refl, ◌↔◌, List, [], ℕ, ◌*◌, ◌≤◌, ◌<◌, ℤ, Result, Ok, Err}
use Rattle.std.proofs.Common.{sym, ap, ◌∙◌, subst, arith}
use mathlib.Core.List.Memᴰ
use Rattle.std.proofs.Math.ListN.{length}
use Rattle.whole.specs.Rising.{rising_none}
use Rattle.words.specs.Parts.{put}
use Rattle.track.specs.declared.cell.Cell.{Cell}
use Rattle.track.specs.declared.refusal.Refusal.TheVariants.{ShortBytes}
use Rattle.table.specs.Header.{clock, capacity, greatest_capacity}
use Rattle.table.specs.Sound.{Sound, Live}
use Rattle.table.specs.Laws.Header.{capacity_low}
use Rattle.leafing.specs.Leafed.{LiveCells}
use Rattle.leafing.specs.Laws.Leafed.{leafed_live}
use Rattle.leafing.specs.Laws.LiveCells.{live_same_list, live_as, live_in_range, live_within}
use Rattle.sheet_write.specs.Written.{written_total}
use Rattle.sheet_write.specs.Laws.Written.{table_short, table_written, answer_same, answer_few}
use Rattle.wkt.specs.Inner.LinePut.{longest}
use Rattle.charting.specs.Charted.{TextOf, no_line, LongerText, Charts, ChartsTracks}
use Rattle.charting.specs.Inner.TextPasses.{TextMeasured, PutsText}
use Rattle.charting.specs.Laws.TrackText.{one_text, text_few}
use Rattle.track.specs.declared.refusal.Refusal.{Refusal}

-- tables with the same clock and live cells have the same text
pub same_text : {v w : List ℤ} → clock v ≡ clock w → ((c : Cell) → Live v c ↔ Live w c) → {l m : List Cell} {s t : List ℕ} → LiveCells v l → LiveCells w m → TextOf (clock v) l s
    → TextOf (clock w) m t → s ≡ t
same_text {v} {w} same_clock same_live {l} {m} {s} a b g h =
    let of-w : TextOf (clock w) l s = subst (λ (z : ℤ). TextOf z l s) same_clock g in
    let of-m : TextOf (clock w) m s = subst (λ (k : List Cell). TextOf (clock w) k s) (live_same_list same_live a b) of-w in
    one_text of-m h

itself : {w : List ℤ} (c : Cell) → Live w c ↔ Live w c
itself c = (λ x. x, λ x. x)

-- a text that finds room is the table's whole text, so none is longer
text_fits : {w : List ℤ} {cells : List Cell} {text : List ℕ} {n : ℕ} → LiveCells w cells → TextOf (clock w) cells text → length text ≤ n → LongerText n w → ⊥
text_fits live is_text room l = omega (arith, l.longer, ap length (same_text refl itself live l.live is_text l.is_text))

-- ---- the ways through the code
module _ {w : List ℤ} {bytes : List ℕ} {n : ℕ} (sound : Sound w) where
  pub charts_short : TextMeasured w n → length bytes < n → ChartsTracks w bytes (Err ShortBytes) bytes
  charts_short m lt = table_short sound (record {
    cells = m.cells;
    live = leafed_live sound m.leafed;
    text = m.measured.text;
    is_text = m.measured.is_text;
    longer = omega (arith, m.measured.long);
  })

  pub charts_all : {bytes' : List ℕ} → PutsText w bytes n bytes' → ChartsTracks w bytes (Ok n) bytes'
  unfolding put
  charts_all p =
      let live = leafed_live sound p.leafed in
      let long : n ≡ length p.so_put.bytes = omega (arith, p.so_put.end) in
      table_written sound (text_fits live p.so_put.spelt (omega (arith, p.so_put.end, p.so_put.fits)))
      (record { cells = p.cells; live = live; text = p.so_put.bytes; is_text = p.so_put.spelt; total_is = long; written = rw long p.so_put.is })

-- ---- the total is small: every live cell of a sound table is in range, and its line is no longer than the longest
text_within : {w : List ℤ} {cells : List Cell} {text : List ℕ} → Sound w → LiveCells w cells → TextOf (clock w) cells text → length text ≤ longest * capacity w
text_within sound live g = omega (arith, live_within sound live, text_few sound.clock_in (λ c m. live_in_range sound (live.only c m)) g)

-- 66 bytes for each cell that the table is for
pub charted_within : {w : List ℤ} {bytes : List ℕ} (r : Result ℕ Refusal) {bytes' : List ℕ} → ChartsTracks w bytes r bytes' → written_total r ≤ longest * capacity w
charted_within r p = answer_few p (λ sound n a f. omega (arith, f.total_is, text_within sound f.live f.is_text))

pub charted_few : {w : List ℤ} {bytes : List ℕ} (r : Result ℕ Refusal) {bytes' : List ℕ} → ChartsTracks w bytes r bytes' → written_total r ≤ longest * greatest_capacity
charted_few r p = answer_few p (λ sound n a f. omega (arith, f.total_is, text_within sound f.live f.is_text, capacity_low sound.capacity_in))

-- ---- two tables
-- the text depends on the clock and the live cells alone: two tables that agree in these, and in being sound, are written with the same number, total and bytes
module _ {v w : List ℤ} (same_clock : clock v ≡ clock w) (same_live : (c : Cell) → Live v c ↔ Live w c) (same-sound : Sound v ↔ Sound w) where
  longer_same : {n : ℕ} → LongerText n v ↔ LongerText n w
  longer_same = (
    λ l. record { cells = l.cells; live = live_as same_live l.live; text = l.text; is_text = rw (← same_clock) l.is_text; longer = l.longer },
    λ l. record { cells = l.cells; live = live_as (λ c. ((same_live c).1, (same_live c).0)) l.live; text = l.text; is_text = rw same_clock l.is_text; longer = l.longer },
  )

  pub charted_same : {bytes : List ℕ} {r s : Result ℕ Refusal} {a b : List ℕ} → ChartsTracks v bytes r a → ChartsTracks w bytes s b → (r ≡ s) × (a ≡ b)
  charted_same {bytes} p q = answer_same same-sound longer_same charts_same p q
    where
      charts_same : (m n : ℕ) (a b : List ℕ) → Charts v bytes m a → Charts w bytes n b → (m ≡ n) × (a ≡ b)
      charts_same m n a b f g =
          let text : f.text ≡ g.text = same_text same_clock same_live f.live g.live f.is_text g.is_text in
          let total : m ≡ n = f.total_is ∙ ap length text ∙ sym g.total_is in
          (total, f.written ∙ rw (text, total) (sym g.written))

-- for one table: no other answer fits
pub charted_fixed : {w : List ℤ} {bytes : List ℕ} {r s : Result ℕ Refusal} {a b : List ℕ} → ChartsTracks w bytes r a → ChartsTracks w bytes s b → (r ≡ s) × (a ≡ b)
charted_fixed p q = charted_same refl itself (λ x. x, λ x. x) p q

-- ---- a sound table with no live cell is accepted, and no byte is written
pub chart_no_cell : {w : List ℤ} {bytes : List ℕ} {r : Result ℕ Refusal} {bytes' : List ℕ} → Sound w → ((c : Cell) → Live w c → ⊥) → ChartsTracks w bytes r bytes' → (r ≡ Ok 0) × (bytes' ≡ bytes)
chart_no_cell {w} {bytes} sound none p = charted_fixed p empty
  where
    nothing : LiveCells w []
    nothing = record { rising = rising_none; only = λ c m. absurd (Memᴰ.not-nil m); all = λ c live. absurd (none c live) }

    empty : ChartsTracks w bytes (Ok 0) bytes
    empty = table_written sound (text_fits nothing no_line (omega arith)) (record { cells = []; live = nothing; text = []; is_text = no_line; total_is = refl; written = refl })
