use native.Mathlib.Omega.{arith}
use Rattle.node.specs.Laws.Change.{removed, remove_changes}
use Rattle.node.specs.Laws.Entry.{count_fits}
use borrow.Author.Rules.{rules}
use Rattle.node.proofs.change.remove.Goals as goal

pub entry_offset-a-requires : goal.entry_offset-a-requires
entry_offset-a-requires c = omega (arith, count_fits c.args.node.now)

pub overflow_add-a : goal.overflow_add-a
overflow_add-a c = let few = count_fits c.args.node.now in search rules

pub overflow_mul-n : goal.overflow_mul-n
overflow_mul-n c = let few = count_fits c.args.node.now in search rules

pub copy_within-requires : goal.copy_within-requires
copy_within-requires c =
    let few = count_fits c.args.node.now in
    record { from_inside = omega arith; to_inside = omega arith; apart_upward = λ up. omega arith }

pub put_count-requires : goal.put_count-requires
put_count-requires c = let few = count_fits c.args.node.now in search rules

pub returns : goal.returns
unfolding removed
returns c =
    let moved = c.copy_within in
    let start = c.entry_offset-a in
    rw (c.put_count.ensures, moved.ensures, start.ensures, c.count-n.ensures) (remove_changes c.args.node.now c.args.k c.requires.0 c.requires.1)
