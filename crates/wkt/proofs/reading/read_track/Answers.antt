use Rattle.std.proofs.Common.{◌≡◌, sym, ◌∙◌, take}
use Rattle.std.proofs.lemmas.Bool.{false≢true}
use Rattle.std.specs.Bool.{Decides}
use Rattle.std.proofs.lemmas.Bool.Decides.{Decides-eqb}
use Rattle.std.proofs.lemmas.Slice.Eq.{slice_eq-Decides}
use Rattle.whole.specs.Laws.Within.{back, read32}
use Rattle.track.specs.Laws.Numbers.{minute_in}
use Rattle.decimal.specs.Laws.PutBytes.{put_read}
use Rattle.wkt.specs.Laws.TrackFound.{read_no_points, read_no_cell, read_other, read_same}
use Rattle.wkt.proofs.reading.read_track.Goals as goal
use Rattle.wkt.proofs.reading.read_track.Goals.{After-eq-same}

told : (c : After-eq-same) → Decides c.eq-same.result (c.args.line.now ≡ take c.put_line-n.result c.put_line-n.new.out)
told c = slice_eq-Decides Decides-eqb _ _ _ c.eq-same.ensures

pub returns-in_default : goal.returns-in_default
returns-in_default c = read_no_points c.in_default.ensures

pub returns-in_default-cell_through : goal.returns-in_default-cell_through
returns-in_default-cell_through c =
    let both = c.in-Some.ensures in
    read_no_cell both (rw (back c.ranges.id) at c.in_default-cell_through.ensures)

pub returns-then-not-same : goal.returns-then-not-same
returns-then-not-same c =
    let both = c.in-Some.ensures in
    let through = rw (back c.ranges.id) at c.in-Some-cell_through.ensures in
    let own = rw (read32 tt (minute_in through.minute_in)) at c.put_line-n.ensures in
    read_other both through own.spelt (λ e. false≢true (sym c.if-not-same.true ∙ (told (goal.at.returns-then-not-same c).After-eq-same).1 (e ∙ sym (put_read own))))

pub returns : goal.returns
returns c =
    let both = c.in-Some.ensures in
    let through = rw (back c.ranges.id) at c.in-Some-cell_through.ensures in
    let own = rw (read32 tt (minute_in through.minute_in)) at c.put_line-n.ensures in
    read_same both through own.spelt ((told (goal.at.returns c).After-eq-same).0 c.if-not-same.false ∙ put_read own)
