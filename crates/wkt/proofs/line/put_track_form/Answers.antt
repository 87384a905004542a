use Rattle.std.proofs.Common.{arith, ◌+◌, ◌≤◌, length}
use Rattle.decimal.specs.Laws.PutBytes.{put_long, word_end}
use Rattle.wkt.specs.Laws.LinePut.{track_form_put}
use Rattle.wkt.proofs.line.put_track_form.Goals as goal
use Rattle.wkt.proofs.line.put_track_form.Goals.{After-put_point-between}

pub put_point-between-requires : goal.put_point-between-requires
put_point-between-requires c =
    let p = c.put_text-from.ensures in
    (c.requires.0, omega (arith, word_end p, put_long p, c.requires.2))

-- room for the rest, after the first point
room : (c : After-put_point-between) → c.put_point-between.result + 28 ≤ length c.put_point-between.new.out
room c =
    let p = c.put_text-from.ensures in
    let q = c.put_point-between.ensures in
    omega (arith, word_end p, put_long p, q.1, put_long q.0, c.requires.2)

pub put_text-to-requires : goal.put_text-to-requires
put_text-to-requires c = omega (arith, room (goal.at.put_text-to-requires c).After-put_point-between)

pub put_point-end-requires : goal.put_point-end-requires
put_point-end-requires c =
    let p = c.put_text-to.ensures in
    (c.requires.1, omega (arith, room (goal.at.put_point-end-requires c).After-put_point-between, word_end p, put_long p))

pub put_text-requires : goal.put_text-requires
put_text-requires c =
    let p = c.put_text-to.ensures in
    let q = c.put_point-end.ensures in
    omega (arith, room (goal.at.put_text-requires c).After-put_point-between, word_end p, put_long p, q.1, put_long q.0)

pub returns : goal.returns
returns c =
    track_form_put c.put_text-from.ensures c.put_point-between.ensures.0 c.put_text-to.ensures c.put_point-end.ensures.0 c.put_text.ensures
