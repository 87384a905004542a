use mathlib.Core.Path.{◌≡◌, ◌∙◌}
use mir.Syntax.{w32}
use mir.Val.{to_z, of_z}
use Rattle.words.specs.Layout.{entry_at}
use Rattle.whole.specs.Laws.Within.{word_back}
use Rattle.track.specs.Numbers.{IsMinute}
use Rattle.node.specs.Entry.{bounds_of, until_of}
use Rattle.table.specs.SoundTree.{is_leaf}
use Rattle.table.specs.Laws.ScanParts.{leaf_test}
use borrow.Author.Rules.{rules}
use Rattle.query.proofs.opening.entry_meets.Goals as goal
use Rattle.query.proofs.opening.entry_meets.Goals.{After-until-last, After-bounds}

until_is : (c : After-until-last) → let a = c.args in to_z w32 (of_z w32 c.until-last.result) ≡ until_of (is_leaf a.height) (entry_at a.node.now a.k)
until_is c = word_back c.until-last.result c.until-last.type_inv ∙ (rw leaf_test at c.until-last.ensures)

bounds_are : (c : After-bounds) → let a = c.args in c.bounds.result ≡ bounds_of (is_leaf a.height) (entry_at a.node.now a.k)
bounds_are c = rw leaf_test at c.bounds.ensures

pub meets-requires : goal.meets-requires
meets-requires c =
    let can = c.requires.1 in
    let is_minute : IsMinute (to_z w32 (of_z w32 c.until-last.result)) = rw (until_is (goal.at.meets-requires c).After-until-last) can.until_in in
    (rw (bounds_are (goal.at.meets-requires c).After-bounds) can.bounds_in, search rules, can.query_in)

pub returns : goal.returns
returns c = simp (bounds_are (goal.at.returns c).After-bounds, until_is (goal.at.returns c).After-until-last) at c.meets.ensures
