use mathlib.Core.Path.{◌≡◌}
use Prim.Native.Nat.{◌^◌}
use lib.IntN.{◌-ℤ◌, ◌*ℤ◌}
use mir.Syntax.{w32, w64}
use mir.Val.{to_z, of_z}
use Rattle.whole.specs.Within.{Within}
use Rattle.whole.specs.Laws.Within.{sub_in, mul_in, fits, back, read64}
use Rattle.track.specs.Inner.Decides.{gap_at, gap_by}
use Rattle.track.proofs.Laws.Small.{gap_at_in, gap_by_in}
use Rattle.track.proofs.interval.gap.Goals as goal

module _ (s : goal.After-from-4) where
  climb_in : Within 200000 (s.args.second -ℤ s.args.first)
  climb_in = sub_in s.requires.1 s.requires.0

  apart_in : Within 2411840 (s.args.first -ℤ s.args.at)
  apart_in = sub_in s.requires.0 s.requires.2

  r_first : to_z w32 (of_z w32 s.args.first) ≡ s.args.first
  r_first = back s.ranges.first

  r_second : to_z w32 (of_z w32 s.args.second) ≡ s.args.second
  r_second = back s.ranges.second

  r_at : to_z w32 (of_z w32 s.args.at) ≡ s.args.at
  r_at = back s.ranges.at

  r_start : to_z w64 (of_z w64 s.args.start) ≡ s.args.start
  r_start = back s.ranges.start

  r_span : to_z w64 (of_z w64 s.args.span) ≡ s.args.span
  r_span = back s.ranges.span

  r_climb : to_z w64 (of_z w64 (s.args.second -ℤ s.args.first)) ≡ s.args.second -ℤ s.args.first
  r_climb = read64 tt climb_in

  r_apart : to_z w64 (of_z w64 (s.args.first -ℤ s.args.at)) ≡ s.args.first -ℤ s.args.at
  r_apart = read64 tt apart_in

  r_spread : to_z w64 (of_z w64 (s.args.span *ℤ (s.args.first -ℤ s.args.at))) ≡ s.args.span *ℤ (s.args.first -ℤ s.args.at)
  r_spread = read64 tt (mul_in s.requires.5 apart_in)

  r_lead : to_z w64 (of_z w64 ((s.args.second -ℤ s.args.first) *ℤ s.args.start)) ≡ (s.args.second -ℤ s.args.first) *ℤ s.args.start
  r_lead = read64 tt (mul_in climb_in s.requires.4)

  r_run : to_z w64 (of_z w64 (s.args.span *ℤ s.args.v)) ≡ s.args.span *ℤ s.args.v
  r_run = read64 tt (mul_in s.requires.5 s.requires.3)

  at_in : Within (2 ^ 32) (gap_at s.args.start s.args.span s.args.first s.args.second s.args.at)
  at_in = gap_at_in s.requires.4 s.requires.5 s.requires.0 s.requires.1 s.requires.2

  by_in : Within (2 ^ 20) (gap_by s.args.span s.args.first s.args.second s.args.v)
  by_in = gap_by_in s.requires.5 s.requires.0 s.requires.1 s.requires.3

  -- what each call of `from` gave
  w_second : to_z w64 (of_z w64 s.from.result) ≡ s.args.second
  w_second = simp (s.from.ensures, r_second) (read64 tt s.requires.1)

  w_first : to_z w64 (of_z w64 s.from-2.result) ≡ s.args.first
  w_first = simp (s.from-2.ensures, r_first) (read64 tt s.requires.0)

  w_first2 : to_z w64 (of_z w64 s.from-3.result) ≡ s.args.first
  w_first2 = simp (s.from-3.ensures, r_first) (read64 tt s.requires.0)

  w_at : to_z w64 (of_z w64 s.from-4.result) ≡ s.args.at
  w_at = simp (s.from-4.ensures, r_at) (read64 tt s.requires.2)

w_v : (c : goal.After-from-5) → to_z w64 (of_z w64 c.from-5.result) ≡ c.args.v
w_v c = simp (c.from-5.ensures, back c.ranges.v) (read64 tt c.requires.3)

ruleset reads = (r_start, r_span, r_climb, r_apart, r_spread, r_lead, r_run, w_second, w_first, w_first2, w_at, w_v)

pub overflow_mul-result : goal.overflow_mul-result
overflow_mul-result c = simp reads (fits tt (mul_in c.requires.5 (apart_in c)))

pub overflow_mul-result-2 : goal.overflow_mul-result-2
overflow_mul-result-2 c = simp reads (fits tt (mul_in (climb_in c) c.requires.4))

pub overflow_sub-result-2 : goal.overflow_sub-result-2
overflow_sub-result-2 c = simp reads (fits tt (at_in c))

pub overflow_mul-result-3 : goal.overflow_mul-result-3
overflow_mul-result-3 c = simp reads (fits tt (mul_in c.requires.5 c.requires.3))

pub overflow_sub-result-3 : goal.overflow_sub-result-3
overflow_sub-result-3 c = simp reads (fits tt (by_in c.before))

pub returns : goal.returns
returns c = simp (reads, read64 tt (at_in c.before), read64 tt (by_in c.before))
