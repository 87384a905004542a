-- A line that is held, answered; one byte more; pieces one after the other.
use Rattle.std.specs.Prelude.{◌≡◌, List, [], ◌∷◌, ◌++◌, ℕ, ◌≤◌, ℤ, length, take, drop}
use Rattle.desk_lines.specs.LineHeld.{LineHeld}
use Rattle.desk_answers.specs.AnswerLines.{LineWritten}
use Rattle.desk_serve.specs.Answered.{Answered}
use Rattle.desk_serve.specs.Served.{Heard}

-- whatever line is held, it is answered in the buffer `before`, which is `after` then; r is how many bytes the answer has
abbrev pub AnswersHeld : List ℕ → ℕ → List ℤ → List ℤ → List ℕ → List ℕ → ℕ → Type 0
AnswersHeld buffer held w v before after r = (line : List ℕ) → LineHeld buffer held line → LineWritten (Answered w line v) before after r

-- ---- one byte more
-- what taking in the byte b does to the table, the held line and the answers so far
pub record TakesByte (b : ℕ) (t : List ℤ) (buffer : List ℕ) (held : ℕ) (out : List ℕ) (written : ℕ)
    (t' : List ℤ) (buffer' : List ℕ) (held' : ℕ) (out' : List ℕ) (written' : ℕ) : Type 0 where
  pub hears : (w : List ℤ) (begun bytes : List ℕ) → Heard w begun bytes t (take written out) buffer held → Heard w begun (bytes ++ b ∷ []) t' (take written' out') buffer' held'
  pub held_in : held' ≤ length buffer'
  pub written_in : written' ≤ length out'
  pub onward : written ≤ written'
  pub rest_kept : drop written' out' ≡ drop written' out
