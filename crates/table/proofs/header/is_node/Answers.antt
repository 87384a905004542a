use Rattle.std.proofs.Common.{arith, rules}
use Rattle.std.specs.Prelude.{pos, ◌≤ℤ◌}
use Rattle.whole.specs.Laws.Tells.{tells_as}
use Rattle.whole.specs.Laws.Within.{back}
use Rattle.words.specs.Laws.Words.{nat_of_below_tells}
use Rattle.table.specs.Header.{nodes_for}
use Rattle.table.proofs.header.is_node.Goals as goal

pub returns-then-z-ge0 : goal.returns-then-z-ge0
returns-then-z-ge0 c =
    let low : pos 0 ≤ℤ c.args.z = search rules in
    let z = simp (back c.ranges.z) at c.place.ensures.0 in
    tells_as (rw (z, c.nodes_for.ensures) (nat_of_below_tells c.args.z (nodes_for c.args.cells) (omega arith))) (λ to. record { from = low; to = to }) (λ i. i.to)
