use Rattle.desk_lines.specs.Forms.{cell, drop as dropped, when, move}
use Rattle.desk_lines.specs.Laws.Forms.{reads_form, reads_bad, form_there, form_missing}
use Rattle.desk_lines.proofs.read.Goals as goal

pub returns-in-Some : goal.returns-in-Some
returns-in-Some c =
    rw c.report_of.ensures (reads_form _ (cell (form_there 7 c.in-Some.ensures)))

pub returns-in-Some-form : goal.returns-in-Some-form
returns-in-Some-form c =
    rw c.from.ensures (reads_form _ (dropped (form_there 2 c.in-Some-form.ensures)))

pub returns-in-Some-form-2 : goal.returns-in-Some-form-2
returns-in-Some-form-2 c =
    rw c.window_of.ensures (reads_form _ (when (form_there 6 c.in-Some-form-2.ensures)))

pub returns-in-Some-form-3 : goal.returns-in-Some-form-3
returns-in-Some-form-3 c =
    rw c.moving_of.ensures (reads_form _ (move (form_there 10 c.in-Some-form-3.ensures)))

pub returns : goal.returns
returns c =
    reads_bad c.args.line.now
    (form_missing 7 c.in_default.ensures)
    (form_missing 2 c.in_default-form.ensures)
    (form_missing 6 c.in_default-form-2.ensures)
    (form_missing 10 c.in_default-form-3.ensures)
