-- The two passes of the writing, one law for each turn of their loops: lines are measured, then put one after the other.
use Rattle.std.specs.Prelude.{◌≡◌, refl, List, [], ◌∷◌, ◌++◌, ℕ, ◌+◌, ◌*◌, ◌≤◌, ◌<◌, ℤ, pos, length, Some, None}
use Rattle.std.proofs.Common.{sym, ap, subst, arith, length-append}
use mathlib.Core.List.Memᴰ
use Rattle.track.specs.declared.cell.Cell.{Cell}
use Rattle.table.specs.Header.{clock, greatest_capacity}
use Rattle.table.specs.Sound.{Sound}
use Rattle.leafing.specs.NextLive.{NextLive}
use Rattle.leafing.specs.Leafed.{Leafed}
use Rattle.leafing.specs.Laws.Leafed.{leafed_fixed, leafed_only}
use Rattle.leafing.specs.Laws.LiveCells.{live_in_range}
use Rattle.leafing.specs.Laws.CellsPassed.{CellsPassed, pass_none, pass_first, pass_end, pass_one, pass_few, pass_all, next_cell_in}
use Rattle.decimal.specs.Inner.PutBytes.{EndsBy, Put}
use Rattle.decimal.specs.Laws.PutBytes.{put_then, put_long, put_nothing}
use Rattle.wkt.specs.TrackLine.{LineOf}
use Rattle.wkt.specs.Inner.LinePut.{longest, LineLong}
use Rattle.wkt.specs.Laws.TrackLine.{line_length}
use Rattle.charting.specs.Charted.{TextOf, no_line, line_then}
use Rattle.charting.specs.Inner.TextPasses.{TextLong, TextMeasured, CanPutText, PutsText}
use Rattle.charting.specs.Laws.TrackText.{one_text, text_exists, text_append, text_one, no_text, text_few}

-- ---- the length: the lines of the cells passed have n bytes, and the leafing goes on from `last`
abbrev pub Measuring : List ℤ → ℤ → ℕ → Type 0
Measuring w last n = CellsPassed w last (λ cells. TextLong (clock w) cells n)

module _ {w : List ℤ} (sound : Sound w) where
  pub measuring_none : Measuring w (pos 0) 0
  measuring_none = pass_none sound (record { text = []; is_text = no_line; long = refl })

  module _ {last : ℤ} {n : ℕ} (so_far : Measuring w last n) where
    pub measuring_next : (c : Cell) → NextLive w last (Some c) → {k : ℕ} → LineLong (clock w) c k → Measuring w c.id (n + k)
    measuring_next c next line =
        let so = so_far.holds in
        pass_one sound so_far c next (record {
          text = so.text ++ line.line;
          is_text = text_append so.is_text (text_one line.is_line);
          long = omega (arith, length-append so.text line.line, so.long, line.long);
        })

    -- the line finds room among as many as a table may hold
    pub measuring_few : (c : Cell) → NextLive w last (Some c) → {k : ℕ} → LineLong (clock w) c k → n + k ≤ longest * greatest_capacity
    measuring_few c next line =
        let so = so_far.holds in
        let passed = text_few sound.clock_in (λ d m. live_in_range sound (leafed_only sound so_far.leafed d (Memᴰ.append_left so_far.left m))) so.is_text in
        omega (arith, so.long, passed, line.long, line_length (next_cell_in sound next) sound.clock_in line.is_line, pass_few sound so_far c next)

    pub measuring_all : NextLive w last None → TextMeasured w n
    measuring_all next = record { cells = so_far.cells; leafed = pass_all so_far (pass_end sound so_far next); measured = so_far.holds }

-- ---- the bytes: the lines of the cells passed stand in the first bytes, up to `at`
abbrev pub PuttingLines : List ℤ → List ℕ → ℤ → ℕ → List ℕ → Type 0
PuttingLines w bytes last at t = CellsPassed w last (λ cells. Put (TextOf (clock w) cells) bytes 0 t at)

module _ {w : List ℤ} {bytes : List ℕ} {n : ℕ} (can : CanPutText w bytes n) where
  pub lines_none : PuttingLines w bytes (pos 0) 0 bytes
  lines_none = pass_none can.sound (put_nothing no_line (omega arith))

  module _ {last : ℤ} {at : ℕ} {t : List ℕ} (so_far : PuttingLines w bytes last at t) where
    -- what was measured is the text so far and that of the cells left
    all_text : {rest : List ℕ} → TextOf (clock w) so_far.left rest → n ≡ at + length rest
    all_text {rest} g =
        let text = so_far.holds.bytes in
        let m = can.all.measured in
        let whole = subst (λ (l : List Cell). TextOf (clock w) l m.text) (leafed_fixed can.all.leafed so_far.leafed) m.is_text in
        let same = one_text whole (text_append so_far.holds.spelt g) in
        omega (arith, m.long, ap length same, length-append text rest, so_far.holds.end)

    -- the next line has room
    pub line_fits : (c : Cell) → NextLive w last (Some c) → EndsBy (LineOf (clock w) c) at (length t)
    line_fits c next = λ line g. by line g (pass_first can.sound so_far c next)
      where
        by : (line : List ℕ) → LineOf (clock w) c line → (later : List Cell) × (so_far.left ≡ c ∷ later) × Leafed w c.id later → at + length line ≤ length t
        by line g (later, first, rest) =
            let more = text_exists {clock = clock w} later in
            let here = subst (λ (l : List Cell). TextOf (clock w) l (line ++ more.0)) (sym first) (line_then g more.1) in
            omega (arith, all_text here, length-append line more.0, can.room, put_long so_far.holds)

    pub lines_next : (c : Cell) → NextLive w last (Some c) → {u : List ℕ} {r : ℕ} → Put (LineOf (clock w) c) t at u r → PuttingLines w bytes c.id r u
    lines_next c next p = pass_one can.sound so_far c next (put_then so_far.holds p (λ s l g h. text_append g (text_one h)))

    -- all is written where no cell is left
    pub lines_end : NextLive w last None → n ≡ at
    lines_end next = omega (arith, all_text (subst (λ (l : List Cell). TextOf (clock w) l []) (sym (pass_end can.sound so_far next)) no_line))

    -- so a cell is left as long as not all is written
    pub lines_go_on : at < n → NextLive w last None → ⊥
    lines_go_on lt next = omega (arith, lines_end next)

    pub lines_all : n ≤ at → PutsText w bytes n t
    lines_all le =
        let rest = text_exists {clock = clock w} so_far.left in
        let all = all_text rest.1 in
        let end : at ≡ n = omega arith in
        record {
          cells = so_far.cells;
          leafed = pass_all so_far (no_text rest.1 (omega arith));
          so_put = subst (Put (TextOf (clock w) so_far.cells) bytes 0 t) end so_far.holds;
        }
