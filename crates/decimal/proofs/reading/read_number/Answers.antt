use Rattle.std.proofs.Common.{◌≡◌, ◌+◌, ◌^◌, ◌<◌, length, get_or, arith}
use Rattle.whole.specs.Within.{Within}
use Rattle.whole.specs.Laws.Within.{read32, neg_read32}
use Rattle.decimal.specs.Laws.NumberRead.{digits_in, no_number_left, negative, not_negative}
use Rattle.decimal.proofs.reading.read_number.Goals as goal
use Rattle.decimal.proofs.reading.read_number.Goals.{After-digits-2, In_ok-size}

pub returns-in_err-get : goal.returns-in_err-get
returns-in_err-get c = rw c.from_residual.ensures (no_number_left c.args.line.now c.args.at c.in_err-get.ensures.lookup.3)

-- a minus stands at the cursor
minus : (c : After-digits-2) → (c.args.at < length c.args.line.now) × (get_or c.args.line.now c.args.at 0 ≡ 45)
minus c = let first = c.in_ok-get.ensures.lookup.3 in (first.0, omega (arith, first.1 0))

pub returns-in_err-size : goal.returns-in_err-size
returns-in_err-size c =
    let m = minus (goal.at.returns-in_err-size c).After-digits-2 in
    rw c.from_residual-in_err-size.ensures (not_negative c.args.line.now c.args.at m.0 m.1 c.in_err-size.ensures)

small : (c : In_ok-size) → Within (10 ^ 9) c.in_ok-size.size
small c = digits_in c.args.line.now (c.args.at + 1) c.in_ok-size.next c.in_ok-size.ensures

pub returns : goal.returns
returns c =
    let at = goal.at.returns c in
    let m = minus at.After-digits-2 in
    let s = small at.In_ok-size in
    negative c.args.line.now c.args.at c.in_ok-size.next m.0 m.1 c.in_ok-size.ensures (simp (read32 tt s) (neg_read32 tt s))
