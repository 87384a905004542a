use mathlib.Core.Path.{◌≡◌, sym, ◌∙◌}
use lib.IntN.{ℤ}
use mir.Syntax.{w32, w64}
use mir.Val.{to_z, of_z}
use Rattle.whole.specs.Within.{Within}
use Rattle.whole.specs.Laws.Within.{read32, read64, back}
use Rattle.whole.specs.Laws.Tells.{tells_false}
use Rattle.track.specs.Laws.Numbers.{minute_in}
use Rattle.track.specs.Meets.{Bounds, span}
use Rattle.track.specs.Query.{QueryInRange}
use Rattle.track.specs.Inner.Cut.{lives_in}
use Rattle.track.specs.Inner.Small.{Small, BoundsInRange}
use Rattle.track.proofs.Laws.Decides.{interval_on_x, meeting_of, meets_in, meets_law, never_on_x}
use Rattle.track.proofs.Laws.Small.{along_small, whole_small, meeting_small, span_in}
use Rattle.track.specs.declared.queries.Query.{Query}
use Rattle.track.proofs.meeting.meets.Goals as goal
use Rattle.track.proofs.meeting.meets.Goals.{After-along-on_x, After-along-on_both}

-- a minute in 64 bits, and the span
told : {z : ℤ} (m : ℤ) → Within 1440 m → z ≡ to_z w32 (of_z w32 m) → to_z w64 (of_z w64 z) ≡ m
told m in_day e = simp (e, read32 tt in_day) (read64 tt in_day)

told_span : {z : ℤ} {q : Query} → QueryInRange q → z ≡ span q → to_z w64 (of_z w64 z) ≡ span q
told_span q_in e = simp e (read64 tt (span_in q_in))

on_x_small : {b : Bounds} {q : Query} → BoundsInRange b → QueryInRange q → Small (interval_on_x b q)
on_x_small b_in q_in = along_small _ _ _ _ _ (minute_in q_in.start_in) (span_in q_in) q_in.x_in b_in.x_in (whole_small q_in)

pub along-on_x-requires : goal.along-on_x-requires
along-on_x-requires c =
    let q_in = c.requires.2 in
    simp (told c.args.q.start.at (minute_in q_in.start_in) c.from-start.ensures, told c.args.q.end.at (minute_in q_in.end_in) c.from.ensures, told_span q_in c.span-minutes.ensures)
    (whole_small q_in, q_in.x_in, c.requires.0.x_in, minute_in q_in.start_in, span_in q_in)

-- what the first call of `along` left
on_x : (c : After-along-on_x) → c.along-on_x.result ≡ interval_on_x c.args.b c.args.q
on_x c =
    let q_in = c.requires.2 in
    simp (told c.args.q.start.at (minute_in q_in.start_in) c.from-start.ensures, told c.args.q.end.at (minute_in q_in.end_in) c.from.ensures, told_span q_in c.span-minutes.ensures)
    at c.along-on_x.ensures

pub lives-requires : goal.lives-requires
lives-requires c = simp (on_x (goal.at.lives-requires c).After-along-on_x, back c.ranges.expiry) (on_x_small c.requires.0 c.requires.2, minute_in c.requires.1)

pub returns-then-not-lives : goal.returns-then-not-lives
returns-then-not-lives c =
    let e : c.lives.result ≡ lives_in (interval_on_x c.args.b c.args.q) c.args.expiry =
    simp (on_x (goal.at.returns-then-not-lives c).After-along-on_x, back c.ranges.expiry) at c.lives.ensures in
    tells_false (never_on_x c.args.b c.args.expiry c.args.q (sym e ∙ c.if-not-lives.true))

pub along-on_both-requires : goal.along-on_both-requires
along-on_both-requires c =
    let q_in = c.requires.2 in
    simp (on_x (goal.at.along-on_both-requires c).After-along-on_x, told c.args.q.start.at (minute_in q_in.start_in) c.from-start.ensures, told_span q_in c.span-minutes.ensures)
    (on_x_small c.requires.0 q_in, q_in.y_in, c.requires.0.y_in, minute_in q_in.start_in, span_in q_in)

-- and the second
on_both : (c : After-along-on_both) (x : c.along-on_x.result ≡ interval_on_x c.args.b c.args.q) → c.along-on_both.result ≡ meeting_of c.args.b c.args.q
unfolding meeting_of
on_both c x =
    let q_in = c.requires.2 in
    simp (x, told c.args.q.start.at (minute_in q_in.start_in) c.from-start.ensures, told_span q_in c.span-minutes.ensures) at c.along-on_both.ensures

pub lives-requires-2 : goal.lives-requires-2
lives-requires-2 c =
    let at = goal.at.lives-requires-2 c in
    simp (on_both at.After-along-on_both (on_x at.After-along-on_x), back c.ranges.expiry) (meeting_small c.requires.0 c.requires.2, minute_in c.requires.1)

pub returns : goal.returns
unfolding meets_in
returns c =
    let at = goal.at.returns c in
    let e : c.lives-2.result ≡ meets_in c.args.b c.args.expiry c.args.q =
    simp (on_both at.After-along-on_both (on_x at.After-along-on_x), back c.ranges.expiry) at c.lives-2.ensures in
    rw e (meets_law c.args.b c.args.expiry c.args.q)
