-- A loop over a leafing: some cells were passed, and the leafing goes on. Some law for each turn and one for the end, whatever is said of the cells passed.
use Rattle.std.specs.Prelude.{◌≡◌, List, [], ◌∷◌, ◌++◌, ◌<◌, ℤ, pos, length, Some, None}
use Rattle.std.proofs.Common.{sym, ap, ◌∙◌, subst, append_assoc, append-nil, arith, to_z, of_z, length-append}
use Rattle.std.specs.Int.{w32}
use Rattle.whole.specs.Laws.Within.{read32}
use Rattle.track.specs.Life.{CellInRange}
use Rattle.track.specs.Laws.Numbers.{identifier_in}
use Rattle.track.specs.declared.cell.Cell.{Cell}
use Rattle.table.specs.Header.{greatest_capacity}
use Rattle.table.specs.Sound.{Sound}
use Rattle.leafing.specs.NextLive.{NextLive}
use Rattle.leafing.specs.Laws.NextLive.{steps_sound}
use Rattle.leafing.specs.Leafed.{Leafed}
use Rattle.leafing.specs.Laws.Leafed.{leafed_first, leafed_none, leafed_live, leafed_exists}
use Rattle.leafing.specs.Laws.LiveCells.{live_in_range, live_few}

-- the leafing from the opening on has given some cells, of which P holds, and goes on from `last`
pub record CellsPassed (w : List ℤ) (last : ℤ) (P : List Cell → Type 0) : Type 0 where
  pub cells : List Cell
  pub holds : P cells
  pub left : List Cell
  pub leafed : Leafed w (pos 0) (cells ++ left)
  pub goes_on : Leafed w last left

-- ---- the end: no cell is left
pub pass_all : {w : List ℤ} {last : ℤ} {P : List Cell → Type 0} (so_far : CellsPassed w last P) → so_far.left ≡ [] → Leafed w (pos 0) so_far.cells
pass_all {w} so_far none = subst (Leafed w (pos 0)) (ap (λ (l : List Cell). so_far.cells ++ l) none ∙ append-nil so_far.cells) so_far.leafed

module _ {w : List ℤ} (sound : Sound w) where
  -- ---- the start
  pub pass_none : {P : List Cell → Type 0} → P [] → CellsPassed w (pos 0) P
  pass_none h =
      let all = leafed_exists sound (pos 0) in
      record { cells = []; holds = h; left = all.0; leafed = all.1; goes_on = all.1 }

  -- ---- a turn: the next cell is the first of those that are left
  module _ {last : ℤ} {P : List Cell → Type 0} (so_far : CellsPassed w last P) where
    pub pass_first : (c : Cell) → NextLive w last (Some c) → (later : List Cell) × (so_far.left ≡ c ∷ later) × Leafed w c.id later
    pass_first c next = leafed_first so_far.goes_on (steps_sound sound last (Some c) next)

    pub pass_end : NextLive w last None → so_far.left ≡ []
    pass_end next = leafed_none so_far.goes_on (steps_sound sound last None next)

    pub pass_one : {Q : List Cell → Type 0} (c : Cell) → NextLive w last (Some c) → Q (so_far.cells ++ (c ∷ [])) → CellsPassed w c.id Q
    pass_one {Q} c next h = by (pass_first c next)
      where
        by : (later : List Cell) × (so_far.left ≡ c ∷ later) × Leafed w c.id later → CellsPassed w c.id Q
        by (later, first, rest) =
            let moved : so_far.cells ++ so_far.left ≡ (so_far.cells ++ (c ∷ [])) ++ later = rw first (sym (append_assoc so_far.cells (c ∷ []) later)) in
            record { cells = so_far.cells ++ (c ∷ []); holds = h; left = later; leafed = subst (Leafed w (pos 0)) moved so_far.leafed; goes_on = rest }

    -- as many as a table may hold are not passed yet
    pub pass_few : (c : Cell) → NextLive w last (Some c) → length so_far.cells < greatest_capacity
    pass_few c next =
        let first = pass_first c next in
        omega (arith, length-append so_far.cells so_far.left, ap length first.1, live_few sound (leafed_live sound so_far.leafed))

  -- ---- the next cell: it is in range, so its identifier can be read back
  module _ {last : ℤ} {c : Cell} (next : NextLive w last (Some c)) where
    pub next_cell_in : CellInRange c
    next_cell_in = live_in_range sound next.is_one

    pub next_cell_back : to_z w32 (of_z w32 c.id) ≡ c.id
    next_cell_back = read32 tt (identifier_in next_cell_in.identifier)
