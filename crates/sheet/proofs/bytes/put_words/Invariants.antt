use Rattle.sheet.specs.Laws.PutWords.{WordsPut}
use Rattle.sheet.proofs.bytes.put_words.Given as goal

abbrev pub invariant-loop-j : goal.invariant-loop-j
invariant-loop-j l = WordsPut l.initial.bytes l.bytes l.at l.words l.j
