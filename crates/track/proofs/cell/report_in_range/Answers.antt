use Rattle.whole.specs.Laws.Within.{word_back}
use Rattle.whole.specs.Laws.Tells.{tells_both, tells_as}
use Rattle.track.proofs.cell.report_in_range.Goals as goal

pub returns : goal.returns
returns c =
    let r = c.args.r in
    let fits = c.well_formed.0.1.1 in
    let told =
    simp (word_back r.id fits.0.1, word_back r.x fits.1.0.1, word_back r.y fits.1.1.0.1, word_back r.vx fits.1.1.1.0.1, word_back r.vy fits.1.1.1.1.0.1, word_back r.minute fits.1.1.1.1.1.0.1, word_back r.expiry fits.1.1.1.1.1.1.0.1)
    at (tells_both (tells_both (tells_both (tells_both (tells_both (tells_both c.is_identifier.ensures c.is_position.ensures) c.is_position-2.ensures) c.is_velocity.ensures) c.is_velocity-2.ensures) c.is_minute.ensures) c.is_minute-2.ensures) in
    tells_as told (λ h. record { identifier = h.0.0.0.0.0.0; x_in = h.0.0.0.0.0.1; y_in = h.0.0.0.0.1; vx_in = h.0.0.0.1; vy_in = h.0.0.1; minute_in = h.0.1; expiry_in = h.1 }) (λ h. ((((((h.identifier, h.x_in), h.y_in), h.vx_in), h.vy_in), h.minute_in), h.expiry_in))
