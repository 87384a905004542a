use borrow.Author.Rules.{rules}
use Rattle.words.specs.Words.{with_count}
use Rattle.words.proofs.put_count.Goals as goal

pub returns : goal.returns
unfolding with_count
returns c = search rules
