-- A plain model of a table: a clock, and the cells that the last accepted call on each identifier left. It knows no words and no tree.
use Rattle.std.specs.Prelude.{◌≡◌, Bool, true, false, ◌↔◌, List, [], ◌∷◌, ℕ, zero, suc, ℤ, pos, length}
use Rattle.std.proofs.Math.IntN.{ℤ_discrete}
use Rattle.whole.specs.Lists.{◌∈◌, keep}
use Rattle.track.specs.Life.{LivesAt}
use Rattle.track.specs.Report.{kept_cell}
use Rattle.track.specs.declared.cell.Cell.{Cell}
use Rattle.table.specs.Header.{capacity_word, clock}
use Rattle.table.specs.Sound.{Sound, Live}
use Rattle.sheet.specs.Sheet.{clock_of, cells_of}
use Rattle.promises.specs.Happens.{Call, Fresh, Report, Drop, Window, Moving, Open, Leaf, Write, Chart, Read, Reply, Number, told, Happens}

pub record Model : Type 0 where
  pub clock : ℤ
  pub left : List Cell

-- a cell is live when it was left and its expiry is after the clock
pub record LiveIn (m : Model) (c : Cell) : Type 0 where
  pub is_left : c ∈ m.left
  pub in_life : LivesAt m.clock c

-- a table and its model go together: it is sound, and has the model's clock and live cells
pub record Together (m : Model) (w : List ℤ) : Type 0 where
  pub sound : Sound w
  pub clock_is : clock w ≡ m.clock
  pub live : (c : Cell) → Live w c ↔ LiveIn m c

-- a fresh table, and one that was read from a sheet
abbrev pub fresh : Model
fresh = record { clock = pos 0; left = [] }

abbrev pub of_sheet : List ℕ → Model
of_sheet bytes = record { clock = clock_of bytes; left = cells_of bytes }

-- the cells with other identifiers
abbrev pub differs : {P : Type 0} → Dec P → Bool
differs (yes p) = false
differs (no n) = true

abbrev pub others : ℤ → List Cell → List Cell
others id cells = keep (λ c. differs (ℤ_discrete c.id id)) cells

-- ---- what becomes of the model
-- by an accepted call: one that only reads leaves it as it is
abbrev pub accepted : Model → Call → Model
accepted m (Fresh cells) = fresh
accepted m (Report r) = record { clock = r.minute; left = kept_cell r ∷ others r.id m.left }
accepted m (Drop id minute) = record { clock = minute; left = others id m.left }
accepted m (Window q list) = m
accepted m (Moving q list) = m
accepted m Open = m
accepted m (Leaf last) = m
accepted m (Write bytes) = m
accepted m (Chart bytes) = m
accepted m (Read cells bytes) = of_sheet bytes

-- by a call with this number: a refusal leaves it as it is
abbrev pub after : Model → Call → ℕ → Model
after m c zero = accepted m c
after m c (suc n) = m

-- by a run of calls
abbrev pub after_all : Model → List Call → List Reply → Model
after_all m [] replies = m
after_all m (c ∷ calls) [] = m
after_all m (c ∷ calls) (a ∷ replies) = after_all (after m c (told a)) calls replies

-- ---- where a run starts: at a fresh table made in any words, or at a sheet read into any
pub data Start : Model → List ℤ → Type 0 where
  made : {w : List ℤ} {cells : ℤ} {v : List ℤ} → Happens w (Fresh cells) (Number 0) v → Start fresh v
  read : {w : List ℤ} {cells : ℤ} {bytes : List ℕ} {v : List ℤ} → Happens w (Read cells bytes) (Number 0) v → Start (of_sheet bytes) v

-- ---- the size of a table: its length stands, and its capacity does but for an accepted new start, which sets it
abbrev pub accepted_capacity : ℤ → Call → ℤ
accepted_capacity n (Fresh cells) = cells
accepted_capacity n (Report r) = n
accepted_capacity n (Drop id minute) = n
accepted_capacity n (Window q list) = n
accepted_capacity n (Moving q list) = n
accepted_capacity n Open = n
accepted_capacity n (Leaf last) = n
accepted_capacity n (Write bytes) = n
accepted_capacity n (Chart bytes) = n
accepted_capacity n (Read cells bytes) = cells

abbrev pub capacity_after : ℤ → Call → ℕ → ℤ
capacity_after n c zero = accepted_capacity n c
capacity_after n c (suc m) = n

-- v is as long as w and has the capacity n
pub record Sized (w v : List ℤ) (n : ℤ) : Type 0 where
  pub as_long : length v ≡ length w
  pub capacity_is : capacity_word v ≡ n
