-- The calls that change a table, as their callers have them; each leaves one number, and `Step` says what table.
use Rattle.std.specs.Prelude.{◌≡◌, List, ℕ, ℤ, pos}
use Rattle.track.specs.declared.report.Report.{Report}
use Rattle.tree.specs.Steps.{ReportSteps, DropSteps}

-- z is the number of a report to the table w, which leaves v
pub record ReportGives (w : List ℤ) (r : Report) (z : ℤ) (v : List ℤ) : Type 0 where
  pub number : ℕ
  pub is : z ≡ pos number
  pub steps : ReportSteps w r number v

-- z is the number of a drop from the table w, which leaves v
pub record DropGives (w : List ℤ) (id minute z : ℤ) (v : List ℤ) : Type 0 where
  pub number : ℕ
  pub is : z ≡ pos number
  pub steps : DropSteps w id minute number v
