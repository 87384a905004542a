use Rattle.node.specs.Laws.Change.{appended, append_changes}
use Rattle.node.proofs.change.append.Goals as goal

pub returns : goal.returns
unfolding appended
returns c =
    let put = c.put_entry in
    rw (c.put_count.ensures, put.ensures.0, c.count-n.ensures) (append_changes c.args.node.now c.args.e c.requires.0 c.requires.1 put.ensures.1)
