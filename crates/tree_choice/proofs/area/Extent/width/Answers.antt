use Rattle.std.proofs.Common.{arith}
use Rattle.std.proofs.lemmas.Int.{ints, to_z-of_z}
use Rattle.tree_choice.specs.Laws.Area.{width_in}
use Rattle.tree_choice.proofs.area.Extent.width.Goals as goal

pub overflow_add-result : goal.overflow_add-result
overflow_add-result c = let w = width_in c.args.self in grind (arith, ints, to_z-of_z)

pub returns : goal.returns
returns c = let w = width_in c.args.self in grind (arith, ints, to_z-of_z)
