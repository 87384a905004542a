use borrow.Author.Rules.{rules}
use Rattle.node.specs.Entry.{entry_count}
use Rattle.node.proofs.entry.count.Goals as goal

pub returns : goal.returns
unfolding entry_count
returns c = search rules
