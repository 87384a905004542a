use Rattle.std.proofs.Common.{take}
use Rattle.decimal.specs.Spells.{Digits}
use Rattle.decimal.proofs.reading.value.Given as goal

abbrev pub invariant-loop-b : goal.invariant-loop-b
invariant-loop-b l = Digits l.sum (take l.b-index l.digits)
