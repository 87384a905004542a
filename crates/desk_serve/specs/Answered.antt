-- What the desk answers to one line, and the table that it leaves.
use Rattle.std.specs.Prelude.{◌≡◌, Option, Some, None, List, [], ◌∷◌, ◌++◌, ℕ, zero, suc, ◌+◌, ◌*◌, ◌≤◌, ◌<◌, ℤ, pos, length, take, Result, Ok, Err}
use Rattle.track.specs.Query.{still, EndsBeforeStart, EndsByStart}
use Rattle.track.specs.Refusals.{number}
use Rattle.track.specs.declared.queries.Query.{Query}
use Rattle.tree.specs.Steps.{ReportSteps, DropSteps}
use Rattle.query.specs.Queried.{answer_number, Queried}
use Rattle.desk_lines.specs.Forms.{ReadsLine}
use Rattle.desk_lines.specs.declared.Line.{Line}
use Rattle.desk_lines.specs.declared.Line.TheVariants.{Cell, Drop, When, Move}
use Rattle.desk_answers.specs.AnswerLines.{ok_line, bad_line, NoLine, HitsLine}
use Rattle.query.specs.declared.answer.Found.{Found}
use Rattle.query.specs.declared.answer.NotListed.{NotListed}

-- the bytes of the longest line, without its line feed
abbrev pub longest_line : ℕ
longest_line = 128

-- the cells that the desk's table has room for, and the places of its list
abbrev pub desk_cells : ℕ
desk_cells = 256

-- the bytes of the longest answer: hits, a count, and as many identifiers as the list has places
abbrev pub longest_answer : ℕ
longest_answer = 16 + 11 * desk_cells

-- ---- queries
-- an answer in words, with the list that it came with
abbrev pub AnswerLine : Result Found NotListed → List ℤ → List ℕ → Type 0
AnswerLine (Ok f) list = HitsLine (take f.hits list)
AnswerLine (Err why) list = NoLine (pos (answer_number (Err why)))

-- a query of the table w is answered by this line
pub record QueryLine (w : List ℤ) (Backward : Type 0) (q : Query) (line : List ℕ) : Type 0 where
  pub list : List ℤ
  pub list' : List ℤ
  pub answer : Result Found NotListed
  pub places : length list ≡ desk_cells
  pub queried : Queried w Backward q list answer list'
  pub spelt : AnswerLine answer list' line

-- ---- reports and drops
-- a call's number in words
abbrev pub OutcomeLine : ℕ → List ℕ → Type 0
OutcomeLine zero line = line ≡ ok_line
OutcomeLine (suc n) line = NoLine (pos (suc n)) line

-- a call is answered by this line. `Steps n` says that the call's number is n
pub record StepLine (Steps : ℕ → Type 0) (line : List ℕ) : Type 0 where
  pub number : ℕ
  pub steps : Steps number
  pub spelt : OutcomeLine number line

-- ---- lines
-- what a line is to the desk: one of the four forms, and nothing where it is none of them or too long
pub record IsLine (line : List ℕ) (form : Option Line) : Type 0 where
  pub short : length line ≤ longest_line → ReadsLine line form
  pub long : longest_line < length line → form ≡ None

-- the answer to a form, if there is one, with the table w, and the table v that there is then
abbrev pub FormLine : Option Line → List ℤ → List ℤ → List ℕ → Type 0
FormLine (Some (Cell r)) w v answer = StepLine (λ n. ReportSteps w r n v) answer
FormLine (Some (Drop d)) w v answer = StepLine (λ n. DropSteps w d.id d.minute n v) answer
FormLine (Some (When q)) w v answer = (v ≡ w) × QueryLine w (EndsBeforeStart q) (still q) answer
FormLine (Some (Move q)) w v answer = (v ≡ w) × QueryLine w (EndsByStart q) q answer
FormLine None w v answer = (v ≡ w) × (answer ≡ bad_line)

-- with the table w the desk answers a line so, and then it has the table v
pub record Answered (w : List ℤ) (line : List ℕ) (v : List ℤ) (answer : List ℕ) : Type 0 where
  pub form : Option Line
  pub is : IsLine line form
  pub answered : FormLine form w v answer

-- the same for lines one after the other, with the answers in the same order
pub data Session : List ℤ → List (List ℕ) → List ℤ → List ℕ → Type 0 where
  no_line : {w : List ℤ} → Session w [] w []
  and_line : {w v u : List ℤ} {lines : List (List ℕ)} {line answers answer : List ℕ} → Session w lines v answers → Answered v line u answer
      → Session w (lines ++ line ∷ []) u (answers ++ answer)
