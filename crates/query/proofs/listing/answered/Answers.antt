use Rattle.std.proofs.lemmas.Result.{err_from_is_err_and}
use Rattle.whole.specs.Laws.Tells.{passed, failed}
use Rattle.table.specs.Sound.{Sound}
use Rattle.query.specs.Laws.Answering.{can_ask, answers_unsound, answers_taken, answers_refused}
use Rattle.query.proofs.listing.answered.Goals as goal
use Rattle.query.proofs.listing.answered.Goals.{Else-not-is_sound}

sound : (c : Else-not-is_sound) → Sound c.args.t.now
sound c = passed c.is_sound.ensures c.if-not-is_sound.false

pub returns-then-not-is_sound : goal.returns-then-not-is_sound
returns-then-not-is_sound c = answers_unsound c.args.asked (failed c.is_sound.ensures c.if-not-is_sound.true)

pub listed-requires : goal.listed-requires
listed-requires c = can_ask (sound (goal.at.listed-requires c).Else-not-is_sound) c.requires c.in_ok-asked.was

pub returns : goal.returns
returns c = answers_taken (sound (goal.at.returns c).Else-not-is_sound) c.requires c.in_ok-asked.was c.listed.ensures

pub returns-in_err-asked : goal.returns-in_err-asked
returns-in_err-asked c =
    let p = err_from_is_err_and c.from_residual.result c.from_residual.ensures.1 in
    rw (p.1, p.2) (answers_refused (sound (goal.at.returns-in_err-asked c).Else-not-is_sound) c.requires c.in_err-asked.was)
