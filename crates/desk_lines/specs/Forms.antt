-- Which lines of bytes, without their line feed, are which form, and what their numbers say.
use Rattle.std.specs.Prelude.{◌≡◌, Option, Some, List, [], ◌∷◌, ◌++◌, ℕ, ℤ}
use Rattle.track.specs.Query.{window_from, query_from}
use Rattle.track.specs.Report.{report_from}
use Rattle.decimal.specs.Spells.{Spells}
use Rattle.desk_lines.specs.declared.Line.{Line}
use Rattle.desk_lines.specs.declared.Line.TheVariants.{Cell, Drop, When, Move}

-- for each number one space and a spelling of it
pub data Fields : List ℤ → List ℕ → Type 0 where
  no_field : Fields [] []
  field : {z : ℤ} {s : List ℕ} {zs : List ℤ} {rest : List ℕ} → Spells z s → Fields zs rest → Fields (z ∷ zs) (32 ∷ (s ++ rest))

-- a word, and a field for each number
pub record Form (word : List ℕ) (numbers : List ℤ) (line : List ℕ) : Type 0 where
  pub rest : List ℕ
  pub is : line ≡ word ++ rest
  pub fields : Fields numbers rest

-- the words, in ASCII: cell, drop, when, move
abbrev pub cell_word : List ℕ
cell_word = 99 ∷ 101 ∷ 108 ∷ 108 ∷ []

abbrev pub drop_word : List ℕ
drop_word = 100 ∷ 114 ∷ 111 ∷ 112 ∷ []

abbrev pub when_word : List ℕ
when_word = 119 ∷ 104 ∷ 101 ∷ 110 ∷ []

abbrev pub move_word : List ℕ
move_word = 109 ∷ 111 ∷ 118 ∷ 101 ∷ []

-- which form a line is, with what its numbers say. A line is bad where nothing here makes it one, as with two spaces together, a space at
-- either end, a tab, a plus, ten digits, a field too few or too many, or a capital letter
pub data IsForm : Line → List ℕ → Type 0 where
  -- cell id x y vx vy minute expiry
  cell : {line : List ℕ} {id x y vx vy minute expiry : ℤ} → Form cell_word (id ∷ x ∷ y ∷ vx ∷ vy ∷ minute ∷ expiry ∷ []) line
      → IsForm (Cell (report_from id x y vx vy minute expiry)) line
  -- drop id minute
  drop : {line : List ℕ} {id minute : ℤ} → Form drop_word (id ∷ minute ∷ []) line → IsForm (Drop (record { id = id; minute = minute })) line
  -- when start end xlow xhigh ylow yhigh
  when : {line : List ℕ} {start end xlow xhigh ylow yhigh : ℤ} → Form when_word (start ∷ end ∷ xlow ∷ xhigh ∷ ylow ∷ yhigh ∷ []) line
      → IsForm (When (window_from start end xlow xhigh ylow yhigh)) line
  -- move with the same six and four edges more
  move : {line : List ℕ} {start end xlow xhigh ylow yhigh xlow2 xhigh2 ylow2 yhigh2 : ℤ}
      → Form move_word (start ∷ end ∷ xlow ∷ xhigh ∷ ylow ∷ yhigh ∷ xlow2 ∷ xhigh2 ∷ ylow2 ∷ yhigh2 ∷ []) line
      → IsForm (Move (query_from start end xlow xhigh ylow yhigh xlow2 xhigh2 ylow2 yhigh2)) line

-- what reading a line answers: the form that it is, with its numbers, and nothing where it is none
pub record ReadsLine (line : List ℕ) (r : Option Line) : Type 0 where
  pub right : (f : Line) → r ≡ Some f → IsForm f line
  pub only : (f : Line) → IsForm f line → r ≡ Some f
