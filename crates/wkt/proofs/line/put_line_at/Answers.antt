use Rattle.std.proofs.Common.{◌≡◌, sym, ℕ, take, arith, List}
use lib.Seq.{length-take-le}
use Rattle.whole.specs.Laws.Within.{back}
use Rattle.decimal.specs.Laws.PutBytes.{put_long, put_as, put_read}
use Rattle.wkt.specs.TrackLine.{LineOf}
use Rattle.wkt.proofs.line.put_line_at.Goals as goal
use Rattle.wkt.proofs.line.put_line_at.Goals.{After-put_line-n}

-- the line, in the bytes of its own
own_put : (c : After-put_line-n) → (t : List ℕ) × LineOf c.args.clock c.args.c t × (take c.put_line-n.result c.put_line-n.new.out ≡ t)
own_put c =
    let p = rw (back c.ranges.clock) at c.put_line-n.ensures in
    (p.bytes, p.spelt, put_read p)

pub slice_bounds-put_text-end : goal.slice_bounds-put_text-end
slice_bounds-put_text-end c = let p = c.put_line-n.ensures in sym (length-take-le _ _ (omega (arith, p.fits, put_long p)))

pub put_text-requires : goal.put_text-requires
put_text-requires c =
    let own = own_put (goal.at.put_text-requires c).After-put_line-n in
    rw own.2 (c.requires.3 own.0 own.1)

pub returns : goal.returns
returns c =
    let own = own_put (goal.at.returns c).After-put_line-n in
    put_as c.put_text.ensures (λ t e. rw (e, own.2) own.1)
