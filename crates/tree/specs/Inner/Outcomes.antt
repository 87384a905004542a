-- What the code of a report and of a drop knows on its ways: one law for each.
use Rattle.std.specs.Prelude.{◌≡◌, ◌⊎◌, List, [], ◌∷◌, ℕ, ℤ, ◌≤ℤ◌}
use Rattle.track.specs.Numbers.{IsMinute}
use Rattle.track.specs.Life.{LivesAt, CellInRange}
use Rattle.track.specs.Refusals.{◌when◌, First}
use Rattle.track.specs.declared.cell.Cell.{Cell}
use Rattle.table.specs.Header.{clock}
use Rattle.table.specs.Sound.{Sound}
use Rattle.tree.specs.Steps.{Stays, NoRoom, Step}

-- ---- a cell that may be taken in, but that there may be no room for it
pub record CanReport (w : List ℤ) (minute : ℤ) (c : Cell) : Type 0 where
  pub sound : Sound w
  pub is_minute : IsMinute minute
  pub later : clock w ≤ℤ minute
  pub in_range : CellInRange c
  pub lives : LivesAt minute c

pub record CellSteps (w : List ℤ) (minute : ℤ) (c : Cell) (n : ℕ) (v : List ℤ) : Type 0 where
  pub refusal : First (9 when NoRoom w minute c.id ∷ []) n
  pub accepted : n ≡ 0 → Step w v minute (λ d. (d ≡ c) ⊎ Stays w minute c.id d)
  pub refused : (n ≡ 0 → ⊥) → v ≡ w
