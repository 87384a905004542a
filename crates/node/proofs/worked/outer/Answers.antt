use borrow.Author.Rules.{rules}
use Rattle.node.specs.Laws.Pass.{outer_low, max_is_outer}
use Rattle.node.proofs.worked.outer.Goals as goal

pub returns-then-column-eq0 : goal.returns-then-column-eq0
returns-then-column-eq0 c = search (rules, outer_low)

pub returns-else-column-eq0 : goal.returns-else-column-eq0
returns-else-column-eq0 c = search (rules, max_is_outer)
