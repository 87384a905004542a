use borrow.Author.Rules.{rules}
use Rattle.node.specs.Entry.{cell_of}
use Rattle.node.proofs.entry.cell.Goals as goal

pub returns : goal.returns
unfolding cell_of
returns c = search rules
