-- Where 4 is not given no range can be denied, and each is stable; so what is accepted keeps its ranges.
use Rattle.std.proofs.Common.{sym, subst}
use Rattle.std.specs.Prelude.{ℤ, Result, Ok, Err, refl}
use Rattle.whole.specs.Laws.Order.{≤ℤ_stable}
use Rattle.whole.specs.Laws.Within.{within_stable}
use Rattle.track.specs.Numbers.{IsMinute, IsIdentifier}
use Rattle.track.specs.Laws.Numbers.{kept_in}
use Rattle.track.specs.Laws.Refusals.{NoneZero, none_holds, not_zero}
use Rattle.track.specs.Report.{ReportInRange, report_reasons, kept_cell, Reports}
use Rattle.track.specs.Query.{EdgesInRange, QueryInRange, query_reasons, Asks}
use Rattle.track.specs.Life.{CellInRange}
use Rattle.track.specs.Accepted.{KeptInRange, TakenInRange}
use Rattle.track.specs.declared.cell.Cell.{Cell}
use Rattle.track.specs.declared.report.Report.{Report}
use Rattle.track.specs.declared.queries.Edges.{Edges}
use Rattle.track.specs.declared.queries.Query.{Query}
use Rattle.track.specs.declared.refusal.Refusal.{Refusal}

-- ---- 4 says that a range is not kept; where it is not given no range can be denied, so each is kept
pub minute_stable : {m : ℤ} → ((IsMinute m → ⊥) → ⊥) → IsMinute m
minute_stable f = record { from = ≤ℤ_stable (λ n. f (λ h. n h.from)); to = ≤ℤ_stable (λ n. f (λ h. n h.to)) }

identifier_stable : {id : ℤ} → ((IsIdentifier id → ⊥) → ⊥) → IsIdentifier id
identifier_stable f = record { from = ≤ℤ_stable (λ n. f (λ h. n h.from)); to = ≤ℤ_stable (λ n. f (λ h. n h.to)) }

report_stable : {r : Report} → ((ReportInRange r → ⊥) → ⊥) → ReportInRange r
report_stable f = record {
  identifier = identifier_stable (λ n. f (λ h. n h.identifier));
  x_in = within_stable (λ n. f (λ h. n h.x_in));
  y_in = within_stable (λ n. f (λ h. n h.y_in));
  vx_in = within_stable (λ n. f (λ h. n h.vx_in));
  vy_in = within_stable (λ n. f (λ h. n h.vy_in));
  minute_in = minute_stable (λ n. f (λ h. n h.minute_in));
  expiry_in = minute_stable (λ n. f (λ h. n h.expiry_in));
}

pub cell_stable : {c : Cell} → ((CellInRange c → ⊥) → ⊥) → CellInRange c
cell_stable f = record {
  identifier = identifier_stable (λ n. f (λ h. n h.identifier));
  x_in = within_stable (λ n. f (λ h. n h.x_in));
  vx_in = within_stable (λ n. f (λ h. n h.vx_in));
  y_in = within_stable (λ n. f (λ h. n h.y_in));
  vy_in = within_stable (λ n. f (λ h. n h.vy_in));
  expiry_in = minute_stable (λ n. f (λ h. n h.expiry_in));
}

edges_stable : {e : Edges} → ((EdgesInRange e → ⊥) → ⊥) → EdgesInRange e
edges_stable f = record {
  low_in = within_stable (λ n. f (λ h. n h.low_in));
  high_in = within_stable (λ n. f (λ h. n h.high_in));
  low2_in = within_stable (λ n. f (λ h. n h.low2_in));
  high2_in = within_stable (λ n. f (λ h. n h.high2_in));
}

query_stable : {q : Query} → ((QueryInRange q → ⊥) → ⊥) → QueryInRange q
query_stable f = record {
  start_in = minute_stable (λ n. f (λ h. n h.start_in));
  end_in = minute_stable (λ n. f (λ h. n h.end_in));
  x_in = edges_stable (λ n. f (λ h. n h.x_in));
  y_in = edges_stable (λ n. f (λ h. n h.y_in));
}

-- ---- no reason has the number 0
pub report_none_zero : (clock : ℤ) (r : Report) → NoneZero (report_reasons clock r)
report_none_zero clock r = (not_zero 3, (not_zero 4, (not_zero 5, tt)))

pub query_none_zero : (clock : ℤ) (Backward : Type 0) (q : Query) → NoneZero (query_reasons clock Backward q)
query_none_zero clock Backward q = (not_zero 3, (not_zero 4, (not_zero 6, tt)))

-- ---- so what is accepted is in range
pub kept_cell_in : {r : Report} → ReportInRange r → CellInRange (kept_cell r)
kept_cell_in h = record {
  identifier = h.identifier;
  x_in = kept_in h.x_in h.vx_in h.minute_in;
  vx_in = h.vx_in;
  y_in = kept_in h.y_in h.vy_in h.minute_in;
  vy_in = h.vy_in;
  expiry_in = h.expiry_in;
}

pub kept_in_range : {clock : ℤ} {r : Report} {answer : Result Cell Refusal} → Reports clock r answer → KeptInRange answer
kept_in_range {clock} {r} {answer = Ok c} h =
    let none = none_holds (report_reasons clock r) 0 (report_none_zero clock r) h.refusal refl in
    subst CellInRange (sym h.cell) (kept_cell_in (report_stable none.0))
kept_in_range {answer = Err why} h = tt

pub taken_in_range : {clock : ℤ} {Backward : Type 0} {q : Query} {answer : Result Query Refusal} → Asks clock Backward q answer → TakenInRange answer
taken_in_range {clock} {Backward} {q} {answer = Ok asked} h =
    let none = none_holds (query_reasons clock Backward q) 0 (query_none_zero clock Backward q) h.refusal refl in
    subst QueryInRange (sym h.query) (query_stable none.0)
taken_in_range {answer = Err why} h = tt
