use Rattle.std.proofs.Common.{inl, arith}
use Rattle.table.specs.Sound.{Sound}
use Rattle.leafing.specs.Laws.CellsLeft.{left_few}
use Rattle.leafing.specs.Laws.LiveStep.{drains_leafed}
use Rattle.sheet_write.proofs.count_live.Goals as goal
use Rattle.sheet_write.proofs.count_live.Goals.{After-of}

sound : (c : After-of) → Sound c.of.result.table.now
sound c = rw c.of.ensures.same_table c.requires

pub count-requires-clause-fits : goal.count-requires-clause-fits
count-requires-clause-fits c = inl (omega (arith, left_few (sound c) c.of.result.last))

pub returns : goal.returns
returns c =
    let ran = c.count.ensures.ran in
    let all = drains_leafed c.of.result (sound (goal.at.returns c).After-of) ran.0 ran.1 in
    record { cells = ran.0; leafed = rw (c.of.ensures.same_table, c.of.ensures.from_start) at all; count = ran.2 }
