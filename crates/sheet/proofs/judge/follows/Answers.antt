use mathlib.Core.Path.{◌≡◌}
use mir.Syntax.{w32}
use mir.Val.{to_z, of_z}
use Rattle.whole.specs.Laws.Order.{lt_z_tells}
use Rattle.whole.specs.Laws.Within.{back}
use Rattle.sheet.specs.Laws.Records.{follows_tells}
use Rattle.sheet.proofs.judge.follows.Goals as goal
use Rattle.sheet.proofs.judge.follows.Goals.{Start}

module _ (s : Start) where
  id_is : to_z w32 (of_z w32 s.args.c.id) ≡ s.args.c.id
  id_is = back {w = w32} (record { sfits = s.well_formed.0.1.1.0.1 })

  expiry_is : to_z w32 (of_z w32 s.args.c.expiry.at) ≡ s.args.c.expiry.at
  expiry_is = back {w = w32} (record { sfits = s.well_formed.0.1.1.1.1.1.1.1.0.1.1.0.1 })

pub returns : goal.returns
returns c =
    let s = (goal.at.returns c).Start in
    simp (id_is s, expiry_is s, back s.ranges.clock, back s.ranges.last) (follows_tells c.cell_in_range.ensures lt_z_tells lt_z_tells)
