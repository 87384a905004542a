use mathlib.Core.Path.{◌≡◌, ap, ◌∙◌}
use Rattle.whole.specs.Laws.Within.{back}
use Rattle.words.specs.Words.{nat_of}
use Rattle.table.specs.Header.{nodes_for}
use Rattle.table.specs.Laws.Headed.{headed_then}
use Rattle.table.specs.Laws.FreshMade.{fresh_made}
use Rattle.table.proofs.fresh.write.Goals as goal
use Rattle.table.proofs.fresh.write.Goals.{After-nodes_for}

pub returns : goal.returns
returns c =
    let root = c.set_root.ensures in
    let clock = c.set_clock.ensures in
    let size = c.set_capacity.ensures in
    let nodes_are : c.nodes_for.result ≡ nodes_for (nat_of c.args.cells) = c.nodes_for.ensures ∙ ap nodes_for (simp (back c.ranges.cells) at c.place.ensures.0) in
    fresh_made
    c.requires.0
    c.requires.1
    (simp nodes_are at c.free_all.ensures)
    (headed_then size.headed (headed_then clock.headed root.headed))
    (root.same_capacity ∙ clock.same_capacity ∙ size.capacity_is ∙ back c.ranges.cells)
    (root.same_clock ∙ clock.clock_is)
    root.root_is
    root.height_is
