use Rattle.std.proofs.Common.{arith, w32}
use Rattle.whole.specs.Laws.Within.{read_at}
use Rattle.sheet.specs.Laws.PutWords.{none_put, word_put}
use Rattle.sheet.proofs.bytes.put_words.Goals as goal

pub loop-j-init : goal.loop-j-init
loop-j-init c = none_put

pub loop-j-preserved : goal.loop-j-preserved
loop-j-preserved c =
    let at = c.loop-j in
    let word = read_at w32 c.args.words.now at.j (omega arith) in
    word_put at.invariant (omega arith) c.requires (rw word at c.put_word.ensures)
