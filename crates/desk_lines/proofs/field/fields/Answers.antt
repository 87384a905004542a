use Rattle.std.proofs.Common.{length, arith, leb→le, le→leb}
use lib.Dec.{leb}
use Rattle.whole.specs.Laws.Within.{read32}
use Rattle.desk_lines.specs.Laws.Passing.{fields_passed_next, fields_passed_all}
use Rattle.desk_lines.proofs.field.fields.Goals as goal

pub loop-number-preserved : goal.loop-number-preserved
loop-number-preserved g c =
    let next = c.in_ok-number.ensures in
    rw (read32 tt next.small) (fields_passed_next c.loop-number.invariant (omega (arith, c.loop-number.invariant.long)) next)

pub returns : goal.returns
returns g c =
    let end = length c.args.line.now in
    let at = c.loop-number.at in
    rw c.then_some.ensures (fields_passed_all c.loop-number.invariant (leb end at) (omega (arith, c.loop-number.invariant.long)) (leb→le end at) (le→leb end at))
