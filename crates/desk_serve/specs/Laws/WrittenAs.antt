-- A line that was written, told in other words.
use Rattle.std.specs.Prelude.{List, ℕ}
use Rattle.desk_answers.specs.AnswerLines.{LineWritten}

pub written_as : {P Q : List ℕ → Type 0} {before after : List ℕ} {r : ℕ} → ((s : List ℕ) → P s → Q s) → LineWritten P before after r → LineWritten Q before after r
written_as turned p = record { line = p.line; spelt = turned p.line p.spelt; long = p.long; fits = p.fits; is = p.is }
