use Rattle.std.proofs.Common.{◌+◌, ◌*◌, length, refl, arith}
use Rattle.decimal.specs.Laws.PutBytes.{put_long, room_ten, ends_by_ten, word_end}
use Rattle.desk_answers.specs.Laws.PutLines.{spelt_whole}
use Rattle.desk_answers.specs.Laws.AnswerLines.{hits_line}
use Rattle.desk_answers.proofs.spell_hits.Goals as goal

pub put_decimal-fields-requires : goal.put_decimal-fields-requires
put_decimal-fields-requires c =
    let p = c.put_text-at.ensures in
    room_ten c.put_text-at.result (length c.put_text-at.new.out) c.requires (omega (arith, word_end p, put_long p))

pub put_list-end-requires : goal.put_list-end-requires
put_list-end-requires c =
    let p = c.put_text-at.ensures in
    let q = c.put_decimal-fields.ensures in
    omega (arith, word_end p, put_long p, put_long q, ends_by_ten c.requires q)

pub put_text-requires : goal.put_text-requires
put_text-requires c =
    let p = c.put_text-at.ensures in
    let q = c.put_decimal-fields.ensures in
    let r = c.put_list-end.ensures in
    omega (arith, word_end p, put_long p, put_long q, ends_by_ten c.requires q, put_long r.0)

pub returns : goal.returns
returns c =
    spelt_whole (16 + 11 * length c.args.hits.now) c.if-out-hits.false
    (hits_line refl c.put_text-at.ensures c.put_decimal-fields.ensures c.put_list-end.ensures.0 c.put_text.ensures)
