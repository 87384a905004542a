use Rattle.std.proofs.Common.{◌+◌, arith, length, set, length-set, rules}
use Rattle.desk_answers.specs.AnswerLines.{none}
use Rattle.decimal.specs.Laws.PutBytes.{put_nothing, room_ten, ends_by_ten}
use Rattle.desk_answers.specs.Laws.PutLines.{list_next}
use Rattle.desk_answers.proofs.put_list.Goals as goal

pub loop-id-init : goal.loop-id-init
loop-id-init c = (omega arith, put_nothing none (omega arith))

pub put_decimal-end-requires : goal.put_decimal-end-requires
put_decimal-end-requires c =
    let long = length-set c.loop-id.out c.loop-id.end 32 in
    room_ten (c.loop-id.end + 1) (length (set c.loop-id.out c.loop-id.end 32)) c.place.ensures.1 (omega arith)

pub loop-id-preserved : goal.loop-id-preserved
loop-id-preserved c = (
  omega (arith, ends_by_ten c.place.ensures.1 c.put_decimal-end.ensures),
  list_next c.args.list.now c.loop-id.id-index c.loop-id.invariant.1 (omega arith) (omega arith) (search rules) c.put_decimal-end.ensures,
)
