-- A line that is held in a buffer is what the desk takes it for.
use Rattle.std.specs.Prelude.{◌≡◌, refl, Option, None, List, ℕ, ◌+◌, ◌≤◌, ◌<◌, ℤ, length, take}
use Rattle.std.proofs.Common.{arith}
use Rattle.desk_lines.specs.Forms.{ReadsLine}
use Rattle.desk_lines.specs.declared.Line.{Line}
use Rattle.desk_lines.specs.LineHeld.{LineHeld}
use Rattle.desk_lines.specs.Laws.LineHeld.{held_whole, held_over}
use Rattle.desk_answers.specs.AnswerLines.{bad_line}
use Rattle.desk_serve.specs.Answered.{longest_line, IsLine, FormLine, Answered}

pub short_line : {line : List ℕ} {f : Option Line} → length line ≤ longest_line → ReadsLine line f → IsLine line f
short_line h reads = record { short = λ k. reads; long = λ k. absurd (omega arith) }

-- a form's answer is the line's
pub answered_form : {w v : List ℤ} {line answer : List ℕ} {f : Option Line} → length line ≤ longest_line → ReadsLine line f → FormLine f w v answer → Answered w line v answer
answered_form {f} h reads a = record { form = f; is = short_line h reads; answered = a }

-- the buffer has one place more than the longest line
module _ {buffer : List ℕ} {held : ℕ} {line : List ℕ} (places : length buffer ≡ longest_line + 1) (h : LineHeld buffer held line) where
  pub too_long : (w : List ℤ) → longest_line < held → Answered w line w bad_line
  too_long w over = record {
    form = None;
    is = record { short = λ k. absurd (omega (arith, held_over h (omega arith))); long = λ k. refl };
    answered = (refl, refl);
  }

  pub whole_line : held ≤ longest_line → take held buffer ≡ line
  whole_line few = held_whole h (omega arith)
