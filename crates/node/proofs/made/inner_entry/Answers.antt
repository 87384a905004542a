use borrow.Author.Rules.{rules}
use Rattle.words.specs.Words.{row_at}
use Rattle.node.specs.Inner.Made.{inner_entry}
use Rattle.node.proofs.made.inner_entry.Goals as goal

pub returns : goal.returns
unfolding inner_entry row_at
returns c = search rules
