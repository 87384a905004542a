-- A cell's line of well-known text (OGC 06-103r4): which bytes it has. Bytes are those of ASCII, and each line ends in a line feed.
use Rattle.std.specs.Prelude.{◌≡◌, List, [], ◌∷◌, ◌++◌, ℕ, ℤ}
use Rattle.track.specs.declared.cell.Cell.{Cell}
use Rattle.decimal.specs.Decimal.{SignedDecimal}
use Rattle.wkt.specs.Metres.{stands_at}
use Rattle.wkt.specs.declared.point.Point.{Point}

-- `POINT M (`
abbrev pub point_word : List ℕ
point_word = 80 ∷ 79 ∷ 73 ∷ 78 ∷ 84 ∷ 32 ∷ 77 ∷ 32 ∷ 40 ∷ []

-- `LINESTRING M (`
abbrev pub line_string_word : List ℕ
line_string_word = 76 ∷ 73 ∷ 78 ∷ 69 ∷ 83 ∷ 84 ∷ 82 ∷ 73 ∷ 78 ∷ 71 ∷ 32 ∷ 77 ∷ 32 ∷ 40 ∷ []

-- a comma and a space; `)` and a line feed
abbrev pub comma : List ℕ
comma = 44 ∷ 32 ∷ []

abbrev pub closing : List ℕ
closing = 41 ∷ 10 ∷ []

-- ---- the forms, each with the numbers that it has
-- `x y m`
pub record PointText (p : Point) (text : List ℕ) : Type 0 where
  pub x_text : List ℕ
  pub y_text : List ℕ
  pub m_text : List ℕ
  pub x_spelt : SignedDecimal p.x x_text
  pub y_spelt : SignedDecimal p.y y_text
  pub m_spelt : SignedDecimal p.minute m_text
  pub is : text ≡ x_text ++ (32 ∷ (y_text ++ (32 ∷ m_text)))

-- `POINT M (x y m)`
pub record PointForm (p : Point) (line : List ℕ) : Type 0 where
  pub point : List ℕ
  pub spelt : PointText p point
  pub is : line ≡ point_word ++ (point ++ closing)

-- `LINESTRING M (x y m, x y m)`
pub record TrackForm (first last : Point) (line : List ℕ) : Type 0 where
  pub from : List ℕ
  pub to : List ℕ
  pub from_spelt : PointText first from
  pub to_spelt : PointText last to
  pub is : line ≡ line_string_word ++ (from ++ (comma ++ (to ++ closing)))

-- ---- the line of a cell: where its track stands at the clock and at its expiry, and one point where the expiry is the clock. A text has live cells only, whose expiry
-- is after the clock: so none of its lines is a point (`never_a_point` of charting/Laws)
pub data LineOf (clock : ℤ) (c : Cell) (line : List ℕ) : Type 0 where
  at_one_point : c.expiry.at ≡ clock → PointForm (stands_at c clock) line → LineOf clock c line
  from_to : (c.expiry.at ≡ clock → ⊥) → TrackForm (stands_at c clock) (stands_at c c.expiry.at) line → LineOf clock c line
