-- What a report says, and when it is refused.
use Rattle.std.specs.Prelude.{List, [], ◌∷◌, ◌≡◌, ℤ, ◌≤ℤ◌, ◌<ℤ◌, Result, IfOk}
use Rattle.track.specs.Numbers.{IsMinute, IsIdentifier, IsPosition, IsVelocity, kept}
use Rattle.track.specs.Refusals.{Reason, ◌when◌, First, number_of}
use Rattle.track.specs.declared.cell.Cell.{Cell}
use Rattle.track.specs.declared.refusal.Refusal.{Refusal}
use Rattle.track.specs.declared.report.Report.{Report}

-- the report of plain numbers
abbrev pub report_from : ℤ → ℤ → ℤ → ℤ → ℤ → ℤ → ℤ → Report
report_from id x y vx vy minute expiry = record { id = id; x = x; y = y; vx = vx; vy = vy; minute = minute; expiry = expiry }

pub record ReportInRange (r : Report) : Type 0 where
  pub identifier : IsIdentifier r.id
  pub x_in : IsPosition r.x
  pub y_in : IsPosition r.y
  pub vx_in : IsVelocity r.vx
  pub vy_in : IsVelocity r.vy
  pub minute_in : IsMinute r.minute
  pub expiry_in : IsMinute r.expiry

-- why a report is refused at the clock, in the order in which it is tried
abbrev pub report_reasons : ℤ → Report → List Reason
report_reasons clock r =
    4 when (ReportInRange r → ⊥) ∷
    5 when (r.minute <ℤ clock) ∷
    6 when (r.expiry ≤ℤ r.minute) ∷
    []

-- the cell that an accepted report is kept as
abbrev pub kept_cell : Report → Cell
kept_cell r = record {
  id = r.id;
  x = kept r.x r.vx r.minute;
  vx = r.vx;
  y = kept r.y r.vy r.minute;
  vy = r.vy;
  expiry = record { at = r.expiry };
}

-- the answer is the first refusal, or the cell that the report is kept as
pub record Reports (clock : ℤ) (r : Report) (answer : Result Cell Refusal) : Type 0 where
  pub refusal : First (report_reasons clock r) (number_of answer)
  pub cell : IfOk answer (λ c. c ≡ kept_cell r)
