use Rattle.std.proofs.Common.{◌∙◌, to_z, arith}
use Rattle.std.specs.Int.{w32}
use Rattle.whole.specs.Tells.{Tells}
use Rattle.whole.specs.Laws.Tells.{passed, failed}
use Rattle.whole.specs.Laws.Within.{word_back, read32}
use Rattle.track.specs.Laws.Numbers.{identifier_in}
use Rattle.sheet.specs.Sheet.{clock_of, cell_at}
use Rattle.sheet.specs.Inner.Records.{Follows}
use Rattle.sheet.specs.Laws.Records.{none_passed, one_passed, one_failed, all_passed}
use Rattle.sheet.proofs.judge.records_sound.Goals as goal
use Rattle.sheet.proofs.judge.records_sound.Goals.{After-follows}

told : (c : After-follows) → Tells c.follows.result (Follows (clock_of c.args.bytes.now) (to_z w32 c.loop-k.last-bits) (cell_at c.args.bytes.now c.loop-k.k))
told c = simp (word_back c.clock_of-clock.result c.clock_of-clock.type_inv ∙ c.clock_of-clock.ensures, c.cell_at-c.ensures) at c.follows.ensures

pub loop-k-init : goal.loop-k-init
loop-k-init c = none_passed

pub returns-then-not-follows : goal.returns-then-not-follows
returns-then-not-follows c =
    one_failed c.loop-k.invariant (omega (arith, c.count_of-n.ensures.0)) (failed (told (goal.at.returns-then-not-follows c).After-follows) c.if-not-follows.true)

pub loop-k-preserved : goal.loop-k-preserved
loop-k-preserved c =
    let follows = passed (told (goal.at.loop-k-preserved c).After-follows) c.if-not-follows.false in
    let cell = c.cell_at-c.ensures in
    rw (cell, read32 tt (identifier_in follows.in_range.identifier)) (one_passed c.loop-k.invariant (omega (arith, c.count_of-n.ensures.0)) follows)

pub returns : goal.returns
returns c = all_passed c.loop-k.invariant (omega (arith, c.count_of-n.ensures.0))
