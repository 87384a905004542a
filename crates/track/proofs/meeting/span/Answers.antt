use mathlib.Core.Path.{◌≡◌}
use lib.IntN.{◌-ℤ◌}
use mir.Syntax.{w32, w64}
use mir.Val.{to_z, of_z}
use Rattle.whole.specs.Within.{Within}
use Rattle.whole.specs.Laws.Within.{sub_in, fits, read32, read64}
use Rattle.track.specs.Laws.Numbers.{minute_in}
use Rattle.track.proofs.Laws.Decides.{span_one, span_minutes}
use Rattle.track.proofs.meeting.span.Goals as goal

module _ (s : goal.After-from-2) where
  r_start : to_z w32 (of_z w32 s.args.q.start.at) ≡ s.args.q.start.at
  r_start = read32 tt (minute_in s.requires.start_in)

  r_end : to_z w32 (of_z w32 s.args.q.end.at) ≡ s.args.q.end.at
  r_end = read32 tt (minute_in s.requires.end_in)

  minutes_in : Within 2880 (s.args.q.end.at -ℤ s.args.q.start.at)
  minutes_in = sub_in (minute_in s.requires.end_in) (minute_in s.requires.start_in)

  r_minutes : to_z w64 (of_z w64 (s.args.q.end.at -ℤ s.args.q.start.at)) ≡ s.args.q.end.at -ℤ s.args.q.start.at
  r_minutes = read64 tt minutes_in

w_end : (c : goal.After-from-2) → to_z w64 (of_z w64 c.from.result) ≡ c.args.q.end.at
w_end c = simp (c.from.ensures, r_end) (read64 tt (minute_in c.requires.end_in))

w_start : (c : goal.After-from-2) → to_z w64 (of_z w64 c.from-2.result) ≡ c.args.q.start.at
w_start c = simp (c.from-2.ensures, r_start) (read64 tt (minute_in c.requires.start_in))

ruleset reads = (r_minutes, w_end, w_start)

pub overflow_sub-minutes : goal.overflow_sub-minutes
overflow_sub-minutes c = simp reads (fits tt (minutes_in c))

pub returns-then-minutes-lt1 : goal.returns-then-minutes-lt1
returns-then-minutes-lt1 c = span_one _ (simp reads at c.if-minutes-lt1.true)

pub returns-else-minutes-lt1 : goal.returns-else-minutes-lt1
returns-else-minutes-lt1 c = simp reads (span_minutes _ (simp reads at c.if-minutes-lt1.false))
