-- One number, one total and the same bytes only fit a writing, one number a reading, one number and one record a step.
use Rattle.std.specs.Prelude.{◌≡◌, refl, List, ℕ, ℤ, pos, Result, Option}
use Rattle.std.proofs.Common.{sym, ap, ◌∙◌}
use Rattle.sheet.specs.Sheet.{cell_numbers}
use Rattle.leafing.specs.Laws.NextLive.{steps_fixed}
use Rattle.sheet_read.specs.Laws.ReadingSteps.{read_fixed}
use Rattle.sheet_write.specs.Written.{written_total}
use Rattle.sheet_write.specs.Laws.Written.{written_same}
use Rattle.calls.specs.SheetCalls.{WrittenInNumbers, WriteGives, ReadGives, is_given, next_cell, NextGives}
use Rattle.track.specs.declared.cell.Cell.{Cell}
use Rattle.track.specs.declared.refusal.Refusal.{Refusal}
use Rattle.track.specs.Refusals.{number_of}

-- one answer has one number and one total
pub numbers_fixed : {a b : Result ℕ Refusal} {r total s total₂ : ℤ} → a ≡ b → WrittenInNumbers a r total → WrittenInNumbers b s total₂ → (r ≡ s) × (total ≡ total₂)
numbers_fixed e m n = (
  m.number_is ∙ ap (λ (a : Result ℕ Refusal). pos (number_of a)) e ∙ sym n.number_is,
  m.total_is ∙ ap (λ (a : Result ℕ Refusal). pos (written_total a)) e ∙ sym n.total_is,
)

pub write_fixed : {w : List ℤ} {bytes : List ℕ} {r total : ℤ} {bytes' : List ℕ} {s total₂ : ℤ} {bytes'' : List ℕ}
    → WriteGives w bytes r total bytes' → WriteGives w bytes s total₂ bytes'' → (r ≡ s) × (total ≡ total₂) × (bytes' ≡ bytes'')
write_fixed f g =
    let same = written_same refl (λ c. (λ x. x, λ x. x)) (λ x. x, λ x. x) f.writes g.writes in
    let numbers = numbers_fixed same.0 f.in_numbers g.in_numbers in
    (numbers.0, numbers.1, same.1)

pub read_number_fixed : {cells : ℤ} {w : List ℤ} {bytes : List ℕ} {r s : ℤ} {u v : List ℤ} → ReadGives cells w bytes r u → ReadGives cells w bytes s v → r ≡ s
read_number_fixed f g = f.number_is ∙ ap (λ (o : Result (Unit {0}) Refusal). pos (number_of o)) (read_fixed f.reads g.reads) ∙ sym g.number_is

pub next_fixed : {w : List ℤ} {last r : ℤ} {numbers : List ℤ} {s : ℤ} {numbers₂ : List ℤ}
    → NextGives w last r numbers → NextGives w last s numbers₂ → (r ≡ s) × (numbers ≡ numbers₂)
next_fixed f g =
    let same = steps_fixed f.next g.next f.steps g.steps in (
      f.number_is ∙ ap is_given same ∙ sym g.number_is,
      f.record_is ∙ ap (λ (n : Option Cell). cell_numbers (next_cell n)) same ∙ sym g.record_is,
    )
