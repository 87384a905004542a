-- The leafing that holds on to a lent table: what its opening makes, and what a step gives and leaves.
use Rattle.std.specs.Prelude.{◌≡◌, List, [], ◌∷◌, ℤ, pos, Option, Some, None}
use Rattle.std.specs.Borrow.{Bor}
use Rattle.track.specs.Refusals.{First, number_of}
use Rattle.track.specs.declared.cell.Cell.{Cell}
use Rattle.leafing.specs.NextLive.{Steps, opening_reasons, last_after}
use Rattle.leafing.specs.declared.Leafing.{Leafing}

-- the opening over the table t: nothing is given yet, and it is refused by 1 exactly when the table is not sound
pub record Opens (t : Bor (List ℤ)) (l : Leafing) : Type 0 where
  pub same_table : l.table ≡ t
  pub from_start : l.last ≡ pos 0
  pub opening : First (opening_reasons t.now) (number_of l.opened)

-- a step of the leafing l gives r and leaves l'
pub record Moves (l : Leafing) (r : Option Cell) (l' : Leafing) : Type 0 where
  pub steps : Steps l.table.now l.last r
  pub same_table : l'.table ≡ l.table
  pub goes_on : l'.last ≡ last_after r l.last
  pub same_opening : l'.opened ≡ l.opened

-- the steps of the leafing l give these cells, one after the other, and then none
pub data Leafs : Leafing → List Cell → Type 0 where
  last_step : {l l' : Leafing} → Moves l None l' → Leafs l []
  one_step : {l l' : Leafing} {c : Cell} {cells : List Cell} → Moves l (Some c) l' → Leafs l' cells → Leafs l (c ∷ cells)
