use Rattle.std.specs.Prelude.{◌*◌, ◌^◌, ◌*ℤ◌}
use Rattle.std.proofs.Common.{arith}
use Rattle.std.proofs.lemmas.Int.{ints, to_z-of_z}
use Rattle.whole.specs.Within.{Within}
use Rattle.whole.specs.Laws.Within.{any_in, mul_in}
use Rattle.tree_choice.proofs.area.edge_at.Goals as goal
use Rattle.tree_choice.proofs.area.edge_at.Goals.{Start}

run_in : (s : Start) → Within (2 ^ 31 * 2 ^ 31) (s.args.v *ℤ s.args.minute)
run_in s = mul_in (any_in s.ranges.v) (any_in s.ranges.minute)

pub overflow_add-result : goal.overflow_add-result
overflow_add-result c =
    let run = run_in (goal.at.overflow_add-result c).Start in
    search (arith, ints, to_z-of_z, run.abs)

pub returns : goal.returns
returns c =
    let run = run_in (goal.at.returns c).Start in
    search (arith, ints, to_z-of_z, run.abs)
