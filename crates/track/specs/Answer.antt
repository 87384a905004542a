-- What is told of a report and a query on its cell: 1 for yes, 0 for no, else the first refusal's number. `gives_fixed` says that one number only fits it.
use Rattle.std.specs.Prelude.{List, [], ◌∷◌, ◌++◌, ◌⊎◌, ◌≡◌, ℕ, ◌≤ℤ◌, ◌<ℤ◌, Result, IsOkAnd}
use Rattle.track.specs.Refusals.{Reason, ◌when◌, number_of, first_given}
use Rattle.track.specs.Report.{ReportInRange, kept_cell}
use Rattle.track.specs.Query.{QueryInRange, Crossed, EndsBeforeStart, EndsByStart, still}
use Rattle.track.specs.Meets.{CellMeets}
use Rattle.track.specs.declared.cell.Cell.{Cell}
use Rattle.track.specs.declared.report.Report.{Report}
use Rattle.track.specs.declared.queries.Query.{Query}
use Rattle.track.specs.declared.refusal.Refusal.{Refusal}

-- `Backward` is as in `query_reasons`
abbrev pub meeting_reasons : Report → Type 0 → Query → List Reason
meeting_reasons r Backward q =
    4 when (ReportInRange r × QueryInRange q → ⊥) ∷
    5 when (q.start.at <ℤ r.minute) ∷
    6 when (r.expiry ≤ℤ r.minute) ∷
    7 when (Backward ⊎ (Crossed q.x ⊎ Crossed q.y)) ∷
    []

abbrev pub meeting_answers : Report → Type 0 → Query → List Reason
meeting_answers r Backward q = meeting_reasons r Backward q ++ 1 when CellMeets (kept_cell r) q ∷ []

-- of a window, and of a moving query
abbrev pub window_answers : Report → Query → List Reason
window_answers r q = meeting_answers r (EndsBeforeStart q) (still q)

abbrev pub moving_answers : Report → Query → List Reason
moving_answers r q = meeting_answers r (EndsByStart q) q

-- of a report and a query that were each answered before: the first refusal's number, 0 where neither is refused
abbrev pub refusal_of : Result Cell Refusal → Result Query Refusal → ℕ
refusal_of reported asked = first_given (number_of reported) (number_of asked)

-- and what is told of the two: 1 where there are a cell and a query, and the cell meets it
abbrev pub answers_to : Result Cell Refusal → Result Query Refusal → List Reason
answers_to reported asked =
    refusal_of reported asked when (refusal_of reported asked ≡ 0 → ⊥) ∷
    1 when IsOkAnd reported (λ c. IsOkAnd asked (λ q. CellMeets c q)) ∷
    []
