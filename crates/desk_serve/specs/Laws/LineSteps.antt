-- The number of a refused call in words.
use Rattle.std.specs.Prelude.{◌≡◌, refl, List, ℕ, zero, suc, pos}
use Rattle.track.specs.Refusals.{number}
use Rattle.track.specs.Laws.Refusals.{refused_not_zero}
use Rattle.track.specs.declared.refusal.Refusal.{Refusal}
use Rattle.desk_answers.specs.AnswerLines.{NoLine}
use Rattle.desk_serve.specs.Answered.{OutcomeLine}

not_zero_line : (n : ℕ) (s : List ℕ) → (n ≡ 0 → ⊥) → NoLine (pos n) s → OutcomeLine n s
not_zero_line zero s ne p = absurd (ne refl)
not_zero_line (suc n) s ne p = p

pub refused_line : (r : Refusal) (s : List ℕ) → NoLine (pos (number r)) s → OutcomeLine (number r) s
refused_line r s p = not_zero_line (number r) s (refused_not_zero r) p
