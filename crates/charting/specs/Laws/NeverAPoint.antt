-- Every line that is written is a LINESTRING, and no POINT line stands anywhere in what is written: the cells of a text live at the clock, so none expires at it.
use Rattle.std.specs.Prelude.{◌≡◌, refl, List, ◌++◌, ℕ, T, ℤ, length, take, drop}
use Rattle.std.proofs.Common.{sym, ◌∙◌}
use mathlib.Core.List.Memᴰ
use Rattle.std.proofs.Math.Seq.{take-append_seam}
use Rattle.whole.specs.Lists.{◌∈◌}
use Rattle.track.specs.Life.{LivesAt}
use Rattle.track.specs.declared.cell.Cell.{Cell}
use Rattle.table.specs.Header.{clock}
use Rattle.wkt.specs.TrackLine.{PointForm}
use Rattle.wkt.specs.declared.point.Point.{Point}
use Rattle.wkt.specs.Laws.TrackLine.{live_line}
use Rattle.wkt.specs.Laws.NoPoint.{without_p, without-append, without_line, no_point}
use Rattle.charting.specs.Charted.{TextOf, no_line, line_then, LineStringsOf, no_line_string, line_string_then, Charts}

module _ {clock : ℤ} where
  line_strings : {cells : List Cell} {text : List ℕ} → ((c : Cell) → c ∈ cells → LivesAt clock c) → TextOf clock cells text → LineStringsOf clock cells text
  line_strings lives no_line = no_line_string
  line_strings lives (line_then {c} line more) = line_string_then (live_line (lives c (Memᴰ.head refl)) line) (line_strings (λ d m. lives d (Memᴰ.tail m)) more)

  without_text : {cells : List Cell} {text : List ℕ} → LineStringsOf clock cells text → T (without_p text)
  without_text no_line_string = tt
  without_text (line_string_then {line} {text} form more) = without-append line text (without_line form) (without_text more)

module _ {w : List ℤ} {bytes : List ℕ} {total : ℕ} {bytes' : List ℕ} (charts : Charts w bytes total bytes') where
  pub never_a_point : LineStringsOf (clock w) charts.cells charts.text
  never_a_point = line_strings (λ c m. (charts.live.only c m).in_life) charts.is_text

  pub point_nowhere : (before after : List ℕ) {line : List ℕ} {p : Point} → take total bytes' ≡ before ++ (line ++ after) → PointForm p line → ⊥
  point_nowhere before after e form = no_point before after (without_text never_a_point) (sym is ∙ e) form
    where
      is : take total bytes' ≡ charts.text
      is = rw (charts.written, charts.total_is) (take-append_seam charts.text (drop (length charts.text) bytes))
