use Rattle.std.proofs.Common.{length}
use Rattle.desk_answers.specs.Laws.PutLines.{spelt_whole}
use Rattle.desk_answers.proofs.spell_word.Goals as goal

pub returns : goal.returns
returns c =
    spelt_whole (length c.args.word.now) c.if-out-word.false c.put_text.ensures
