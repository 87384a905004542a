-- The next live cell: that with the least identifier above the last one.
use Rattle.std.specs.Prelude.{◌≡◌, List, [], ◌∷◌, ℤ, ◌≤ℤ◌, ◌<ℤ◌, Option, Some, None}
use Rattle.track.specs.Refusals.{Reason, ◌when◌}
use Rattle.track.specs.declared.cell.Cell.{Cell}
use Rattle.table.specs.Sound.{Sound, Live}

-- of the cells with P, c is the one with the least identifier above `last`
pub record IsNext (P : Cell → Type 0) (last : ℤ) (c : Cell) : Type 0 where
  pub is_one : P c
  pub above : last <ℤ c.id
  pub least : (d : Cell) → P d → last <ℤ d.id → c.id ≤ℤ d.id

-- the next of the cells with P, or none where none of them has an identifier above `last`
abbrev pub NextOf : (Cell → Type 0) → ℤ → Option Cell → Type 0
NextOf P last (Some c) = IsNext P last c
NextOf P last None = (c : Cell) → P c → last <ℤ c.id → ⊥

-- the next live cell of a sound table
abbrev pub NextLive : List ℤ → ℤ → Option Cell → Type 0
NextLive w last r = NextOf (Live w) last r

-- a step of the leafing over any words: those that are no sound table give none
pub record Steps (w : List ℤ) (last : ℤ) (r : Option Cell) : Type 0 where
  pub sound : Sound w → NextLive w last r
  pub unsound : (Sound w → ⊥) → r ≡ None

-- why a leafing is not opened
abbrev pub opening_reasons : List ℤ → List Reason
opening_reasons w = 1 when (Sound w → ⊥) ∷ []

-- the identifier that a leafing goes on from
abbrev pub last_after : Option Cell → ℤ → ℤ
last_after (Some c) last = c.id
last_after None last = last
