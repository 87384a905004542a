use Rattle.std.proofs.Common.{length, arith}
use Rattle.decimal.specs.Laws.PutBytes.{room_one, put_one, room_front, room_last, put_last}
use Rattle.decimal.proofs.spelling.+put_decimal.Goals as goal

pub bounds-out-at : goal.bounds-out-at
bounds-out-at t c = room_one c.if-n-lt10.true c.requires

pub overflow_add-result : goal.overflow_add-result
overflow_add-result t c = omega (arith, room_one c.if-n-lt10.true c.requires)

pub returns-then-n-lt10 : goal.returns-then-n-lt10
returns-then-n-lt10 t c = put_one c.digit_byte.result c.if-n-lt10.true (room_one c.if-n-lt10.true c.requires) c.digit_byte.ensures

pub put_decimal-last-requires : goal.put_decimal-last-requires
put_decimal-last-requires t c = (omega (arith, c.decreases), room_front c.args.at (length c.args.out.now) c.if-n-lt10.false c.requires)

pub bounds-out-last : goal.bounds-out-last
bounds-out-last t c = room_last c.put_decimal-last.ensures c.if-n-lt10.false c.requires

pub returns : goal.returns
returns t c =
    let ten = c.if-n-lt10.false in
    put_last c.put_decimal-last.ensures c.digit_byte-2.result ten (room_last c.put_decimal-last.ensures ten c.requires) c.digit_byte-2.ensures
