-- The iterator over the live cells of a sound table: it ends, and its steps are those of a leafing from the last identifier on.
use Rattle.std.specs.Prelude.{◌≡◌, List, [], ◌∷◌, ◌<◌, ℤ, Option, Some, None}
use Rattle.std.proofs.Common.{ap}
use Rattle.std.specs.Borrow.{Bor}
use Rattle.std.specs.Iterator.{MakesProgress, Count, Drains}
use Rattle.track.specs.declared.cell.Cell.{Cell}
use Rattle.table.specs.Sound.{Sound, held}
use Rattle.leafing.specs.Laws.NextLive.{steps_sound}
use Rattle.leafing.specs.Leafed.{Leafed, no_more, one_more}
use Rattle.leafing.specs.Inner.CellsLeft.{count_above, cells_left}
use Rattle.leafing.specs.Inner.LiveStep.{LiveStep}
use Rattle.leafing.specs.Laws.CellsLeft.{left_less}
use Rattle.leafing.specs.declared.live.LiveCells.{LiveCells}

abbrev CanNext : LiveCells → Type 0
CanNext l = Sound l.table.now

abbrev left : LiveCells → Count
left l = cells_left l.table.now l.last

-- the words are the same
pub same_words : {l l' : LiveCells} {r : Option Cell} → LiveStep l r l' → l'.table.now ≡ l.table.now
same_words s = ap (λ (t : Bor (List ℤ)). t.now) s.same_table

-- ---- it ends
pub live_goes : {l l' : LiveCells} (r : Option Cell) → Sound l.table.now → LiveStep l r l' → MakesProgress CanNext left l r l'
live_goes None sound s = record { on = λ f. tt; keeps = tt; rests = λ f. tt }
live_goes {l} {l'} (Some c) sound s = record { on = λ f. (there, tt, less); keeps = there; rests = λ f. tt }
  where
    there : Sound l'.table.now
    there = rw s.same_table sound

    less : count_above l'.last (held l'.table.now) < count_above l.last (held l.table.now)
    less = rw (s.same_table, s.goes_on) (left_less s.next)

-- ---- what it gives until none is left are the cells of a leafing
pub drains_leafed : (l : LiveCells) → Sound l.table.now → (cells : List Cell) → Drains LiveStep l cells → Leafed l.table.now l.last cells
drains_leafed l sound [] (u, (t, same, step)) = no_more (steps_sound sound l.last None (rw (← same) at step.next))
drains_leafed l sound (c ∷ cells) (u, (t, (j, step, more), last)) =
    let later = drains_leafed j (rw step.same_table sound) cells (u, (t, more, last)) in
    one_more (steps_sound sound l.last (Some c) step.next) (rw (step.same_table, step.goes_on) at later)
