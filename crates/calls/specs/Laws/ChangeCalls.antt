-- A report and a drop have one number only.
use Rattle.std.specs.Prelude.{◌≡◌, List, ℤ, pos}
use Rattle.std.proofs.Common.{sym, ap, ◌∙◌}
use Rattle.track.specs.Laws.Refusals.{first_fixed}
use Rattle.track.specs.declared.report.Report.{Report}
use Rattle.tree.specs.Steps.{report_refusals, drop_refusals}
use Rattle.calls.specs.ChangeCalls.{ReportGives, DropGives}

-- one number only fits
pub report_number_fixed : {w : List ℤ} {r : Report} {y z : ℤ} {v u : List ℤ} → ReportGives w r y v → ReportGives w r z u → y ≡ z
report_number_fixed {w} {r} f g = f.is ∙ ap pos (first_fixed (report_refusals w r) f.number g.number f.steps.refusal g.steps.refusal) ∙ sym g.is

pub drop_number_fixed : {w : List ℤ} {id minute y z : ℤ} {v u : List ℤ} → DropGives w id minute y v → DropGives w id minute z u → y ≡ z
drop_number_fixed {w} {id} {minute} f g =
    f.is ∙ ap pos (first_fixed (drop_refusals w id minute) f.number g.number f.steps.refusal g.steps.refusal) ∙ sym g.is
