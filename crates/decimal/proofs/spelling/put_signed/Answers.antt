use Rattle.std.proofs.Common.{◌≡◌, ap, ◌∙◌, not-suc-le-zero, ltb→lt, ℕ, ℤ, pos, negsuc, nat_abs, neg_ℤ, length, length-set, ◌≤ℤ◌, ◌<ℤ◌, arith}
use Rattle.whole.specs.Laws.Order.{le_z_true, le_z_false}
use Rattle.whole.specs.Laws.Within.{word_back, back}
use Rattle.words.specs.Words.{nat_of}
use Rattle.words.specs.Laws.Words.{nat_of-pos, nat_of-abs}
use Rattle.decimal.specs.Laws.PutBytes.{room_plain, put_plain, room_minus, room_sign, put_minus}
use Rattle.decimal.proofs.spelling.put_signed.Goals as goal
use Rattle.decimal.proofs.spelling.put_signed.Goals.{After-place-size, Then-z-ge0, Else-z-ge0}

size_is : (c : After-place-size) → c.place-size.result ≡ nat_abs c.args.z
size_is c =
    let r = back c.ranges.z in
    let abs = word_back c.abs.result c.abs.type_inv ∙ c.abs.ensures.value in
    c.place-size.ensures.0 ∙ ap nat_of (abs ∙ simp r) ∙ nat_of-pos (nat_abs c.args.z)

-- a number that is not below 0 is its digits
plain : (c : Then-z-ge0) → pos 0 ≤ℤ c.args.z
plain c = le_z_true (simp (back c.ranges.z) at c.if-z-ge0.true)

plain_size : (z : ℤ) {n : ℕ} → n ≡ nat_abs z → pos 0 ≤ℤ z → n ≡ nat_of z
plain_size z e h = e ∙ nat_of-abs z h

-- another one is a minus and the digits of its size
below : (c : Else-z-ge0) → c.args.z <ℤ pos 0
below c = le_z_false (simp (back c.ranges.z) at c.if-z-ge0.false)

below_size : (z : ℤ) {n : ℕ} → n ≡ nat_abs z → z <ℤ pos 0 → n ≡ nat_of (neg_ℤ z)
unfolding nat_of
below_size (pos m) e h = absurd (not-suc-le-zero (ltb→lt m 0 h.lt))
below_size (negsuc m) e h = e

pub put_decimal-requires : goal.put_decimal-requires
put_decimal-requires c =
    let at = goal.at.put_decimal-requires c in
    let h = plain at.Then-z-ge0 in
    room_plain c.args.at (length c.args.out.now) h (plain_size c.args.z (size_is at.After-place-size) h) c.requires.1

pub returns-then-z-ge0 : goal.returns-then-z-ge0
returns-then-z-ge0 c =
    let at = goal.at.returns-then-z-ge0 c in
    let h = plain at.Then-z-ge0 in
    put_plain h (plain_size c.args.z (size_is at.After-place-size) h) c.put_decimal.ensures

pub bounds-out-at : goal.bounds-out-at
bounds-out-at c = room_sign c.args.z c.args.at (length c.args.out.now) c.requires.1

pub overflow_add-at : goal.overflow_add-at
overflow_add-at c = omega (arith, room_sign c.args.z c.args.at (length c.args.out.now) c.requires.1)

pub put_decimal-requires-2 : goal.put_decimal-requires-2
put_decimal-requires-2 c =
    let at = goal.at.put_decimal-requires-2 c in
    let h = below at.Else-z-ge0 in
    rw length-set (room_minus h (below_size c.args.z (size_is at.After-place-size) h) c.args.at (length c.args.out.now) c.requires.1)

pub returns : goal.returns
returns c =
    let at = goal.at.returns c in
    let h = below at.Else-z-ge0 in
    put_minus h (below_size c.args.z (size_is at.After-place-size) h) (room_sign c.args.z c.args.at (length c.args.out.now) c.requires.1) c.put_decimal-2.ensures
