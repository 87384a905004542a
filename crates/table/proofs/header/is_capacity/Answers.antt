use Rattle.std.proofs.Common.{◌≤◌, rules, tests}
use Rattle.whole.specs.Tells.{Tells}
use Rattle.whole.specs.Laws.Within.{back}
use Rattle.table.specs.Header.{greatest_capacity}
use Rattle.table.specs.Laws.Header.{capacity_between}
use Rattle.table.proofs.header.is_capacity.Goals as goal

pub returns : goal.returns
returns c =
    let m = c.place.result in
    let between : Tells c.contains.result ((1 ≤ m) × (m ≤ greatest_capacity)) = record { sure = λ t. search (rules, tests); seen = λ h. search (rules, tests) } in
    capacity_between c.args.n (simp (c.place.ensures.0, back c.ranges.n) at between)
