use Rattle.std.specs.Prelude.{◌-ℤ◌}
use Rattle.std.proofs.Common.{arith}
use Rattle.std.specs.Int.{w64}
use Rattle.std.proofs.lemmas.Int.{ints, to_z-of_z}
use borrow.Author.Rules.{rules}
use mir.Val.{SFits}
use Rattle.tree_choice.specs.Laws.Area.{integral_in}
use Rattle.tree_choice.specs.Child.{child_cost}
use Rattle.tree_choice.proofs.child.cost_of.Goals as goal
use Rattle.tree_choice.proofs.child.cost_of.Goals.{After-integral}

grown_fits : (c : After-integral) → SFits w64 (c.integral.result -ℤ c.integral-before.result)
grown_fits c =
    let own = integral_in c.of-own.result in
    let both = integral_in c.with-both.result in
    search (arith, ints, own.abs, both.abs)

pub overflow_sub-result : goal.overflow_sub-result
overflow_sub-result c = let fit = grown_fits (goal.at.overflow_sub-result c).After-integral in search (rules, to_z-of_z)

pub returns : goal.returns
unfolding child_cost
returns c = let fit = grown_fits (goal.at.returns c).After-integral in search (rules, to_z-of_z)
