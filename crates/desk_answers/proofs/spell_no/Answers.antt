use Rattle.std.proofs.Common.{ap, ◌∙◌, arith, length}
use Rattle.whole.specs.Laws.Within.{back}
use Rattle.words.specs.Words.{nat_of}
use Rattle.decimal.specs.Laws.PutBytes.{put_long, room_ten, ends_by_ten, word_end}
use Rattle.desk_answers.specs.Laws.PutLines.{spelt_whole}
use Rattle.desk_answers.specs.Laws.AnswerLines.{no_line}
use Rattle.desk_answers.proofs.spell_no.Goals as goal

pub put_decimal-end-requires : goal.put_decimal-end-requires
put_decimal-end-requires c =
    let p = c.put_text-at.ensures in
    room_ten c.put_text-at.result (length c.put_text-at.new.out) c.place.ensures.1 (omega (arith, word_end p, put_long p))

pub put_text-requires : goal.put_text-requires
put_text-requires c =
    let p = c.put_text-at.ensures in
    let q = c.put_decimal-end.ensures in
    omega (arith, word_end p, put_long p, put_long q, ends_by_ten c.place.ensures.1 q)

pub returns : goal.returns
returns c =
    spelt_whole 14 c.if-out-lt-NO_ROOM.false
    (no_line (c.place.ensures.0 ∙ ap nat_of (back c.ranges.number)) c.put_text-at.ensures c.put_decimal-end.ensures c.put_text.ensures)
