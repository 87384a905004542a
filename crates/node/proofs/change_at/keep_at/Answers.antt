use Rattle.std.proofs.Common.{◌≤◌, take}
use Rattle.node.specs.Entry.{entry_count}
use Rattle.node.specs.Laws.ChangeAt.{range_with, range_changed, range_count}
use Rattle.node.proofs.change_at.keep_at.Goals as goal

pub keep-requires : goal.keep-requires
keep-requires c = range_with c.args.t.now c.args.i _ _ c.node_range.ensures c.requires.0 (λ n. c.args.n ≤ entry_count n) c.requires.1

pub returns : goal.returns
returns c =
    let w = c.args.t.now in
    let i = c.args.i in (
      range_changed w i _ _ c.node_range.ensures c.requires.0 (take c.args.n) c.keep.ensures.0,
      range_count w i _ _ c.node_range.ensures c.requires.0 c.keep.ensures.0 c.keep.ensures.1,
    )
