-- The check finds this too; it stands here so that `drop_transposed` is refused for its fact.
use Rattle.whole.specs.Laws.Within.{word_back}
use Rattle.desk_serve.specs.Laws.WrittenAs.{written_as}
use Rattle.track.specs.Refusals.{number_of}
use Rattle.desk_serve.proofs.stepping.answer_drop.Goals as goal

pub returns : goal.returns
returns c =
    let d = c.args.d in
    let fits = c.well_formed.1.0.1.1 in
    let steps = simp (word_back d.id fits.0.1, word_back d.minute fits.1.0.1) at c.drop-outcome.ensures in
    written_as (λ line p. record { number = number_of c.drop-outcome.result; steps = steps; spelt = p }) c.tell_outcome.ensures
