use Rattle.whole.specs.Laws.Within.{word_back}
use Rattle.whole.specs.Laws.Tells.{tells_both, tells_as}
use Rattle.track.proofs.queries.edges_in_range.Goals as goal

pub returns : goal.returns
returns c =
    let e = c.args.e in
    let fits = c.well_formed.0.1.1 in
    let told =
    simp (word_back e.low fits.0.1, word_back e.high fits.1.0.1, word_back e.low2 fits.1.1.0.1, word_back e.high2 fits.1.1.1.0.1)
    at (tells_both (tells_both (tells_both c.is_position.ensures c.is_position-2.ensures) c.is_position-3.ensures) c.is_position-4.ensures) in
    tells_as told (λ h. record { low_in = h.0.0.0; high_in = h.0.0.1; low2_in = h.0.1; high2_in = h.1 }) (λ h. (((h.low_in, h.high_in), h.low2_in), h.high2_in))
