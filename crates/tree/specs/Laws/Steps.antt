-- What an accepted report or drop comes to: it is not before the clock, and no expired cell is left.
use Rattle.std.specs.Prelude.{◌≡◌, List, ℕ, ℤ, ◌≤ℤ◌}
use Rattle.whole.specs.Lists.{◌∈◌}
use Rattle.whole.specs.Laws.Order.{not_before}
use Rattle.track.specs.Life.{LivesAt}
use Rattle.track.specs.Laws.Refusals.{none_holds, not_zero}
use Rattle.track.specs.declared.cell.Cell.{Cell}
use Rattle.track.specs.declared.report.Report.{Report}
use Rattle.table.specs.Header.{clock}
use Rattle.table.specs.Sound.{held, Live}
use Rattle.tree.specs.Steps.{Step, report_refusals, ReportSteps, drop_refusals, DropSteps}

pub report_late : {w w' : List ℤ} {r : Report} {n : ℕ} → ReportSteps w r n w' → n ≡ 0 → clock w ≤ℤ r.minute
report_late {w} {r} {n} s e =
    not_before (none_holds (report_refusals w r) n (not_zero 0, (not_zero 3, (not_zero 4, (not_zero 5, (not_zero 8, tt))))) s.refusal e).1.1.0

pub drop_late : {w w' : List ℤ} {id minute : ℤ} {n : ℕ} → DropSteps w id minute n w' → n ≡ 0 → clock w ≤ℤ minute
drop_late {w} {id} {minute} {n} s e =
    not_before (none_holds (drop_refusals w id minute) n (not_zero 0, (not_zero 3, (not_zero 4, (not_zero 7, tt)))) s.refusal e).1.1.0

pub held_live : {w w' : List ℤ} {minute : ℤ} {Left : Cell → Type 0} → Step w w' minute Left → (c : Cell) → c ∈ held w' → Live w' c
held_live s c m = s.live c (s.holds c m)

pub step_leaves_what_lives : {w w' : List ℤ} {minute : ℤ} {Left : Cell → Type 0} → Step w w' minute Left → (c : Cell) → c ∈ held w' → LivesAt minute c
step_leaves_what_lives s c m = rw s.clock_is at (held_live s c m).in_life
