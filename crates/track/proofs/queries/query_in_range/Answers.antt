use Rattle.whole.specs.Laws.Within.{word_back}
use Rattle.whole.specs.Laws.Tells.{tells_both, tells_as}
use Rattle.track.proofs.queries.query_in_range.Goals as goal

pub returns : goal.returns
returns c =
    let q = c.args.q in
    let fits = c.well_formed.0.1.1 in
    let told =
    simp (word_back q.start.at fits.0.1.1.0.1, word_back q.end.at fits.1.0.1.1.0.1)
    at (tells_both (tells_both (tells_both c.is_minute.ensures c.is_minute-2.ensures) c.edges_in_range.ensures) c.edges_in_range-2.ensures) in
    tells_as told (λ h. record { start_in = h.0.0.0; end_in = h.0.0.1; x_in = h.0.1; y_in = h.1 }) (λ h. (((h.start_in, h.end_in), h.x_in), h.y_in))
