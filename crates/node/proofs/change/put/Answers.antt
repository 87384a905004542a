use Rattle.node.specs.Laws.Entry.{count_fits}
use Rattle.node.specs.Laws.Change.{put_changes}
use borrow.Author.Rules.{rules}
use Rattle.node.proofs.change.put.Goals as goal

pub put_entry-requires : goal.put_entry-requires
put_entry-requires c = let few = count_fits c.args.node.now in search rules

pub returns : goal.returns
returns c =
    let put = c.put_entry in
    rw put.ensures.0 (put_changes c.args.node.now c.args.k c.args.e c.requires.0 c.requires.1 put.ensures.1)
