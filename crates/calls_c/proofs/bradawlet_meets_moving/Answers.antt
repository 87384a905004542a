use Rattle.whole.specs.Laws.Within.{back, word_back}
use Rattle.calls_c.proofs.bradawlet_meets_moving.Goals as goal

pub returns : goal.returns
returns c =
    let f = c.ranges in
    let told = c.bradawlet_meets_moving.ensures in
    let read =
    simp (
      back f.id,
      back f.x,
      back f.y,
      back f.vx,
      back f.vy,
      back f.minute,
      back f.expiry,
      back f.start,
      back f.end,
      back f.xlow,
      back f.xhigh,
      back f.ylow,
      back f.yhigh,
      back f.xlow2,
      back f.xhigh2,
      back f.ylow2,
      back f.yhigh2,
    )
    at told in
    rw (word_back c.bradawlet_meets_moving.result c.bradawlet_meets_moving.type_inv) read
