use borrow.Author.Rules.{rules}
use Rattle.words.specs.Laws.Layout.{word_entry_at}
use Rattle.node.proofs.entry.entry_word.Goals as goal

pub returns : goal.returns
returns c = search (rules, word_entry_at)
