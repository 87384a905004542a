use Rattle.node.specs.Laws.Entry.{count_fits}
use Rattle.node.specs.Laws.Change.{keep_changes, count_word-with_count}
use borrow.Author.Rules.{rules}
use Rattle.node.proofs.change.keep.Goals as goal

pub put_count-requires : goal.put_count-requires
put_count-requires c = let few = count_fits c.args.node.now in search rules

pub returns : goal.returns
returns c =
    let node = c.args.node.now in
    rw c.put_count.ensures (keep_changes node c.args.n c.requires.0 c.requires.1, count_word-with_count node c.args.n c.requires.0)
