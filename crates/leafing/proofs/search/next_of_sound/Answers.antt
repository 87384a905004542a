use mathlib.Core.Path.{◌∙◌}
use Rattle.whole.specs.Laws.Within.{back, word_back}
use Rattle.leafing.specs.Laws.Search.{looked_all}
use Rattle.table.specs.Laws.Walk.{walk_from_root}
use Rattle.leafing.proofs.search.next_of_sound.Goals as goal

pub lowest_beneath-requires : goal.lowest_beneath-requires
lowest_beneath-requires c = walk_from_root c.requires _ _ c.height.ensures.0 c.root.ensures.0

pub returns : goal.returns
returns c =
    let clock = c.clock in
    looked_all c.args.t.now c.args.last _ (word_back clock.result clock.type_inv ∙ clock.ensures) (back c.ranges.last)
    (rw (c.height.ensures.0, c.root.ensures.0) at c.lowest_beneath.ensures)
