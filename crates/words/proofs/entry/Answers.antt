use Rattle.std.proofs.Common.{◌∙◌}
use Rattle.words.specs.Layout.{entry_words, entry_at}
use Rattle.words.specs.Laws.Parts.{lent-part}
use Rattle.words.proofs.entry.Goals as goal

pub returns : goal.returns
unfolding entry_at
returns c =
    c.copy_from_slice.ensures.after ∙ lent-part c.args.node.now c.entry_offset-a.result entry_words ∙ rw c.entry_offset-a.ensures
