-- What the numbers of a line say, taken from a list by their places.
use Rattle.std.specs.Prelude.{List, ℕ, ℤ, pos, get_or}
use Rattle.track.specs.Query.{window_from, query_from}
use Rattle.track.specs.Report.{report_from}
use Rattle.track.specs.declared.report.Report.{Report}
use Rattle.track.specs.declared.queries.Query.{Query}
use Rattle.desk_lines.specs.declared.DropNumbers.{DropNumbers}

abbrev pub nth : List ℤ → ℕ → ℤ
nth zs i = get_or zs i (pos 0)

abbrev pub report_of : List ℤ → Report
report_of zs = report_from (nth zs 0) (nth zs 1) (nth zs 2) (nth zs 3) (nth zs 4) (nth zs 5) (nth zs 6)

abbrev pub drop_of : List ℤ → DropNumbers
drop_of zs = record { id = nth zs 0; minute = nth zs 1 }

abbrev pub window_of : List ℤ → Query
window_of zs = window_from (nth zs 0) (nth zs 1) (nth zs 2) (nth zs 3) (nth zs 4) (nth zs 5)

abbrev pub moving_of : List ℤ → Query
moving_of zs =
    query_from (nth zs 0) (nth zs 1) (nth zs 2) (nth zs 3) (nth zs 4) (nth zs 5) (nth zs 6) (nth zs 7) (nth zs 8) (nth zs 9)
