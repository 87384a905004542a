use borrow.Author.Rules.{rules}
use Rattle.node.specs.Inner.Made.{leaf_entry}
use Rattle.node.proofs.made.leaf_entry.Goals as goal

pub returns : goal.returns
unfolding leaf_entry
returns c = search rules
