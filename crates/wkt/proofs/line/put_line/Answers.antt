use Rattle.std.proofs.Common.{◌≡◌, rules}
use Rattle.whole.specs.Laws.Within.{back, read32}
use Rattle.track.specs.Laws.Numbers.{minute_in}
use Rattle.decimal.specs.Inner.PutBytes.{Put}
use Rattle.decimal.specs.Laws.PutBytes.{put_as}
use Rattle.wkt.specs.Metres.{stands_at}
use Rattle.wkt.specs.TrackLine.{TrackForm}
use Rattle.wkt.specs.Inner.PointPut.{PointInRange}
use Rattle.wkt.specs.Laws.Metres.{stands_in}
use Rattle.wkt.specs.Laws.TrackLine.{line_of_live}
use Rattle.wkt.proofs.line.put_line.Goals as goal
use Rattle.wkt.proofs.line.put_line.Goals.{After-stands_at-here, After-stands_at-there}

here_is : (c : After-stands_at-here) → c.stands_at-here.result ≡ stands_at c.args.c c.args.clock
here_is c = rw (back c.ranges.clock) at c.stands_at-here.ensures

there_is : (c : After-stands_at-there) → c.stands_at-there.result ≡ stands_at c.args.c c.args.c.expiry.at
there_is c = rw (read32 tt (minute_in c.requires.0.expiry_in)) at c.stands_at-there.ensures

here_in : (c : After-stands_at-here) → PointInRange c.stands_at-here.result
here_in c = rw (here_is c) (stands_in c.requires.0 c.requires.1)

there_in : (c : After-stands_at-there) → PointInRange c.stands_at-there.result
there_in c = rw (there_is c) (stands_in c.requires.0 c.requires.0.expiry_in)

pub put_track_form-requires : goal.put_track_form-requires
put_track_form-requires c =
    let here = here_in (goal.at.put_track_form-requires c).After-stands_at-here in
    let there = there_in (goal.at.put_track_form-requires c).After-stands_at-there in
    search rules

pub returns : goal.returns
returns c =
    let there = (goal.at.returns c).After-stands_at-there in
    let here = (goal.at.returns c).After-stands_at-here in
    let form : Put (TrackForm here.stands_at-here.result there.stands_at-there.result) c.args.out.now 0 c.put_track_form.new.out c.put_track_form.result = c.put_track_form.ensures in
    put_as (rw (here_is here, there_is there) at form) (λ line f. line_of_live c.requires.2 f)
