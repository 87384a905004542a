use Rattle.whole.specs.Laws.Within.{read32}
use Rattle.track.specs.Laws.Numbers.{minute_in}
use Rattle.track.proofs.Laws.Small.{cell_bounds_in}
use Rattle.track.proofs.meeting.cell_meets.Goals as goal

pub meets-requires : goal.meets-requires
meets-requires c =
    simp (c.cell_bounds.ensures, read32 tt (minute_in c.requires.0.expiry_in))
    (cell_bounds_in c.requires.0, c.requires.0.expiry_in, c.requires.1)

pub returns : goal.returns
returns c =
    simp (c.cell_bounds.ensures, read32 tt (minute_in c.requires.0.expiry_in)) at c.meets.ensures
