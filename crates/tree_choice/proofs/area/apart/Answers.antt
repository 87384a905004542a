use Rattle.std.proofs.Common.{◌≡◌, arith}
use Rattle.std.proofs.lemmas.Int.{ints}
use Rattle.tree_choice.specs.Area.{held_to}
use Rattle.tree_choice.proofs.Held.{clamp_is}
use Rattle.tree_choice.proofs.area.apart.Goals as goal

pub returns : goal.returns
returns c =
    let high : c.clamp.result ≡ held_to c.args.bound c.args.high = clamp_is c.ranges.bound c.ranges.high c.requires.0 c.clamp.ensures.value in
    let low : c.clamp-2.result ≡ held_to c.args.bound c.args.low = clamp_is c.ranges.bound c.ranges.low c.requires.0 c.clamp-2.ensures.value in
    omega (arith, ints)
