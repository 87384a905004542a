use borrow.Author.Rules.{rules}
use Rattle.node.specs.Entry.{bounds_of}
use Rattle.node.specs.Laws.Entry.{entry_rows}
use Rattle.node.proofs.entry.bounds.Goals as goal

pub returns-then-leaf : goal.returns-then-leaf
unfolding bounds_of
returns-then-leaf c = search rules

pub returns-else-leaf : goal.returns-else-leaf
unfolding bounds_of
returns-else-leaf c = search (rules, entry_rows)
