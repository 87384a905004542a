use Rattle.std.proofs.Common.{◌<◌, ◌^◌, add-one, take-suc, length-take, arith}
use Rattle.decimal.specs.Spells.{no_digits, and_digit}
use Rattle.decimal.specs.Laws.DigitRuns.{digit_at, value_below}
use Rattle.decimal.proofs.reading.value.Goals as goal
use Rattle.decimal.proofs.reading.value.Goals.{In-loop-b}

pub loop-b-init : goal.loop-b-init
loop-b-init c = no_digits

small : (c : In-loop-b) → c.loop-b.sum < 10 ^ 9
small c = value_below 9 c.loop-b.invariant (omega (arith, length-take c.loop-b.b-index c.args.digits.now))

pub overflow_mul-sum : goal.overflow_mul-sum
overflow_mul-sum c = omega (arith, small (goal.at.overflow_mul-sum c).In-loop-b)

pub digit_value-requires : goal.digit_value-requires
digit_value-requires c = digit_at c.requires.1 c.loop-b.b-index c.loop-b-test.true

pub overflow_add-sum : goal.overflow_add-sum
overflow_add-sum c = omega (arith, small (goal.at.overflow_add-sum c).In-loop-b)

pub loop-b-preserved : goal.loop-b-preserved
loop-b-preserved c =
    let d = c.digit_value.ensures in
    rw (add-one, take-suc c.args.digits.now c.loop-b.b-index 0 c.loop-b-test.true, ← d.0) (and_digit c.loop-b.invariant d.1)
