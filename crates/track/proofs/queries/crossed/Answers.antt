use Rattle.whole.specs.Laws.Within.{word_back}
use Rattle.whole.specs.Laws.Order.{lt_z_tells}
use Rattle.whole.specs.Laws.Tells.{tells_either}
use Rattle.track.proofs.queries.crossed.Goals as goal

pub returns : goal.returns
returns c =
    let e = c.args.e in
    let fits = c.well_formed.0.1.1 in
    simp (word_back e.low fits.0.1, word_back e.high fits.1.0.1, word_back e.low2 fits.1.1.0.1, word_back e.high2 fits.1.1.1.0.1)
    (tells_either lt_z_tells lt_z_tells)
