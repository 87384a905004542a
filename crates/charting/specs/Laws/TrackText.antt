-- The text of some cells: there is one, and how long it is.
use Rattle.std.specs.Prelude.{◌≡◌, refl, List, [], ◌∷◌, ◌++◌, ℕ, ◌*◌, ◌≤◌, ℤ, length}
use Rattle.std.proofs.Common.{sym, ap₂, subst, append_assoc, append-nil, arith, length-append}
use mathlib.Core.List.Memᴰ
use Rattle.whole.specs.Lists.{◌∈◌}
use Rattle.track.specs.Numbers.{IsMinute}
use Rattle.track.specs.Life.{CellInRange}
use Rattle.track.specs.declared.cell.Cell.{Cell}
use Rattle.wkt.specs.TrackLine.{LineOf}
use Rattle.wkt.specs.Inner.LinePut.{longest}
use Rattle.wkt.specs.Laws.TrackLine.{one_line, line_exists, line_some, line_length}
use Rattle.charting.specs.Charted.{TextOf, no_line, line_then}

module _ {clock : ℤ} where
  -- ---- one text
  pub one_text : {cells : List Cell} {s t : List ℕ} → TextOf clock cells s → TextOf clock cells t → s ≡ t
  one_text no_line no_line = refl
  one_text (line_then g more) (line_then h more') = ap₂ ◌++◌ (one_line g h) (one_text more more')

  pub text_exists : (cells : List Cell) → (text : List ℕ) × TextOf clock cells text
  text_exists [] = ([], no_line)
  text_exists (c ∷ cells) =
      let line = line_exists clock c in
      let rest = text_exists cells in
      (line.0 ++ rest.0, line_then line.1 rest.1)

  -- ---- texts one after the other
  pub text_append : {cells later : List Cell} {s t : List ℕ} → TextOf clock cells s → TextOf clock later t → TextOf clock (cells ++ later) (s ++ t)
  text_append no_line rest = rest
  text_append {cells = c ∷ cells} {later} {t} (line_then {line} {text} g more) rest =
      subst (TextOf clock (c ∷ (cells ++ later))) (sym (append_assoc line text t)) (line_then g (text_append more rest))

  pub text_one : {c : Cell} {line : List ℕ} → LineOf clock c line → TextOf clock (c ∷ []) line
  text_one {c} {line} g = subst (TextOf clock (c ∷ [])) (append-nil line) (line_then g no_line)

  -- ---- how long it is
  pub no_text : {cells : List Cell} {text : List ℕ} → TextOf clock cells text → length text ≤ 0 → cells ≡ []
  no_text no_line h = refl
  no_text (line_then {line} {text} g more) h = absurd (too_long h)
    where
      too_long : length (line ++ text) ≤ 0 → ⊥
      too_long h = omega (arith, length-append line text, line_some g)

  pub text_few : {cells : List Cell} {text : List ℕ} → IsMinute clock → ((c : Cell) → c ∈ cells → CellInRange c) → TextOf clock cells text → length text ≤ longest * length cells
  text_few minute in_range no_line = omega arith
  text_few minute in_range (line_then {line} {text} g more) =
      omega (arith, length-append line text, line_length (in_range _ (Memᴰ.head refl)) minute g, text_few minute (λ c m. in_range c (Memᴰ.tail m)) more)
