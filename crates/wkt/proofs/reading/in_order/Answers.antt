use Rattle.whole.specs.Laws.Order.{lt_z_tells}
use Rattle.whole.specs.Laws.Tells.{tells_both, tells_as}
use Rattle.whole.specs.Laws.Within.{word_back}
use Rattle.std.proofs.Common.{w32, to_z, of_z}
use Rattle.wkt.proofs.reading.in_order.Goals as goal

pub returns : goal.returns
returns c =
    let told =
    simp (word_back c.args.first.minute c.well_formed.0.1.1.1.1.0.1, word_back c.args.last.minute c.well_formed.1.0.1.1.1.1.0.1)
    at (tells_both (tells_both c.is_minute.ensures c.is_minute-2.ensures) (lt_z_tells {a = to_z w32 (of_z w32 c.args.first.minute)} {b = to_z w32 (of_z w32 c.args.last.minute)})) in
    simp (word_back c.args.first.minute c.well_formed.0.1.1.1.1.0.1, word_back c.args.last.minute c.well_formed.1.0.1.1.1.1.0.1)
    (tells_as told (λ h. record { first_in = h.0.0; last_in = h.0.1; before = h.1 }) (λ h. ((h.first_in, h.last_in), h.before)))
