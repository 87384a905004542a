-- A leafing from its opening to none: over a sound table it ends, and gives each live cell once, in rising order; over other words it gives none.
use Rattle.std.specs.Prelude.{◌≡◌, refl, List, [], ◌<◌, ℤ, pos, Option, Some, None, Result, ⊤}
use Rattle.std.proofs.Common.{sym, subst}
use Rattle.std.specs.Borrow.{Bor}
use Rattle.std.specs.Iterator.{MakesProgress}
use Rattle.track.specs.declared.cell.Cell.{Cell}
use Rattle.track.specs.declared.refusal.Refusal.{Refusal}
use Rattle.table.specs.Sound.{Sound, held}
use Rattle.leafing.specs.Laws.NextLive.{steps_unsound}
use Rattle.leafing.specs.Leafing.{Opens, Moves, Leafs, last_step, one_step}
use Rattle.leafing.specs.Inner.CellsLeft.{count_above, cells_left}
use Rattle.leafing.specs.Laws.CellsLeft.{steps_less}
use Rattle.leafing.specs.Leafed.{Leafed, no_more, one_more, LiveCells}
use Rattle.leafing.specs.Laws.Leafed.{leafed_fixed, leafed_live, leafed_exists}
use Rattle.leafing.specs.declared.Leafing.{Leafing}

-- ---- it ends: each step leaves fewer cells
pub leafing_goes : {l l' : Leafing} (r : Option Cell) → Moves l r l'
    → MakesProgress (λ (k : Leafing). ⊤) (λ (k : Leafing). cells_left k.table.now k.last) l r l'
leafing_goes None m = record { on = λ f. tt; keeps = tt; rests = λ f. tt }
leafing_goes {l} {l'} (Some c) m = record { on = λ f. (tt, tt, less); keeps = tt; rests = λ f. tt }
  where
    less : count_above l'.last (held l'.table.now) < count_above l.last (held l.table.now)
    less = rw (m.same_table, m.goes_on) (steps_less m.steps)

-- ---- what it gives
-- the steps of a leafing are steps over its table from its last identifier on, and back
pub leafs_leafed : {l : Leafing} {cells : List Cell} → Leafs l cells → Leafed l.table.now l.last cells
leafs_leafed (last_step m) = no_more m.steps
leafs_leafed {l} (one_step {l'} {c} {cells} m rest) = one_more m.steps (there (leafs_leafed rest))
  where
    there : Leafed l'.table.now l'.last cells → Leafed l.table.now c.id cells
    there r = subst (λ (z : ℤ). Leafed l.table.now z cells) m.goes_on (subst (λ (t : Bor (List ℤ)). Leafed t.now l'.last cells) m.same_table r)

pub leafed_leafs : (t : Bor (List ℤ)) (opened : Result (Unit {0}) Refusal) {last : ℤ} {cells : List Cell} → Leafed t.now last cells → Leafs (record { table = t; last = last; opened = opened }) cells
leafed_leafs t opened {last} (no_more p) =
    last_step {l' = record { table = t; last = last; opened = opened }} (record { steps = p; same_table = refl; goes_on = refl; same_opening = refl })
leafed_leafs t opened (one_more p rest) = one_step (record { steps = p; same_table = refl; goes_on = refl; same_opening = refl }) (leafed_leafs t opened rest)

module _ {t : Bor (List ℤ)} {l : Leafing} (opened : Opens t l) where
  from_opening : {cells : List Cell} → Leafs l cells → Leafed t.now (pos 0) cells
  from_opening {cells} s =
      subst (λ (z : ℤ). Leafed t.now z cells) opened.from_start (subst (λ (u : Bor (List ℤ)). Leafed u.now l.last cells) opened.same_table (leafs_leafed s))

  to_opening : {cells : List Cell} → Leafed t.now (pos 0) cells → Leafs l cells
  to_opening {cells} s =
      leafed_leafs l.table l.opened (subst (λ (u : Bor (List ℤ)). Leafed u.now l.last cells) (sym opened.same_table) (subst (λ (z : ℤ). Leafed t.now z cells) (sym opened.from_start) s))

  pub leafing_fixed : {cells cells' : List Cell} → Leafs l cells → Leafs l cells' → cells ≡ cells'
  leafing_fixed s u = leafed_fixed (from_opening s) (from_opening u)

  pub leafing_visits : Sound t.now → {cells : List Cell} → Leafs l cells → LiveCells t.now cells
  leafing_visits sound s = leafed_live sound (from_opening s)

  pub leafing_ends : Sound t.now → (cells : List Cell) × Leafs l cells
  leafing_ends sound = let all = leafed_exists sound (pos 0) in (all.0, to_opening all.1)

  pub leafing_unsound : (Sound t.now → ⊥) → Leafs l []
  leafing_unsound n = to_opening (no_more (steps_unsound n))
