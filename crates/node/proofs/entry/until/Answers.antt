use borrow.Author.Rules.{rules}
use Rattle.node.specs.Entry.{until_of}
use Rattle.node.proofs.entry.until.Goals as goal

pub returns-then-leaf : goal.returns-then-leaf
unfolding until_of
returns-then-leaf c = search rules

pub returns-else-leaf : goal.returns-else-leaf
unfolding until_of
returns-else-leaf c = search rules
