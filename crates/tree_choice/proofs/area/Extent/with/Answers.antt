use Rattle.std.proofs.Common.{arith}
use Rattle.std.proofs.lemmas.Int.{to_z-of_z}
use Rattle.tree_choice.proofs.Held.{min_is, max_is}
use Rattle.tree_choice.proofs.area.Extent.with.Goals as goal

pub returns : goal.returns
returns c = grind (arith, to_z-of_z, min_is, max_is)
