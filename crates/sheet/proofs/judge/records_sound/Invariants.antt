use Rattle.sheet.specs.Laws.Records.{RecordsPassed}
use Rattle.sheet.proofs.judge.records_sound.Given as goal

abbrev pub invariant-loop-k : goal.invariant-loop-k
invariant-loop-k l = RecordsPassed l.bytes l.last l.k
