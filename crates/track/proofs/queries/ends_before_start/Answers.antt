use lib.Signed.{lt_z}
use mir.Syntax.{w32}
use mir.Val.{to_z, of_z}
use Rattle.whole.specs.Laws.Within.{word_back}
use Rattle.whole.specs.Laws.Order.{lt_z_tells}
use Rattle.whole.specs.Tells.{Tells}
use Rattle.track.specs.Query.{EndsBeforeStart}
use Rattle.track.proofs.queries.ends_before_start.Goals as goal

-- what the comparison tells
compared : (s : goal.After-struct_told-1) → let q = s.args.q in Tells (lt_z (to_z w32 (of_z w32 q.end.at)) (to_z w32 (of_z w32 q.start.at))) (EndsBeforeStart q)
compared s =
    let q = s.args.q in
    let fits = s.well_formed.0.1.1 in
    simp (word_back q.start.at fits.0.1.1.0.1, word_back q.end.at fits.1.0.1.1.0.1) lt_z_tells

pub returns : goal.returns
returns c = compared c
