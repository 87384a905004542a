-- What a report and a drop answer, and the table that they leave.
use Rattle.std.specs.Prelude.{◌≡◌, ◌⊎◌, List, [], ◌∷◌, ◌++◌, ℕ, ℤ, length, drop, ◌<ℤ◌, Result, Ok, Err}
use Rattle.whole.specs.Lists.{◌∈◌, NoRepeat}
use Rattle.track.specs.Numbers.{IsMinute, IsIdentifier}
use Rattle.track.specs.Life.{LivesAt}
use Rattle.track.specs.Refusals.{Reason, ◌when◌, First, number, number_of}
use Rattle.track.specs.Report.{report_reasons, kept_cell}
use Rattle.track.specs.declared.cell.Cell.{Cell}
use Rattle.track.specs.declared.report.Report.{Report}
use Rattle.node.specs.Entry.{child_of, stamp_of}
use Rattle.table.specs.Header.{capacity_word, capacity, clock, root, height, words_for, entries_at}
use Rattle.table.specs.SoundTree.{nodes_of, InnerEntry, inners_of}
use Rattle.table.specs.Sound.{held, Live, Sound}
use Rattle.track.specs.declared.refusal.Refusal.{Refusal}

-- the inner entries of a table's tree
abbrev pub inners : List ℤ → List InnerEntry
inners w = inners_of (entries_at w) (height w) (root w)

-- every node beneath the entry, its child first, has the entries that it had
abbrev pub SameBelow : List ℤ → List ℤ → InnerEntry → Type 0
SameBelow w w' e = (j : ℕ) → j ∈ nodes_of (entries_at w) e.levels (child_of e.entry) → entries_at w' j ≡ entries_at w j

-- c is held, lives at the minute, and is another cell than the one with this identifier
pub record Stays (w : List ℤ) (minute id : ℤ) (c : Cell) : Type 0 where
  pub is_held : c ∈ held w
  pub lives : LivesAt minute c
  pub other : c.id ≡ id → ⊥

-- a cell with this identifier is held and lives at the minute
pub record IsThere (w : List ℤ) (minute id : ℤ) : Type 0 where
  pub cell : Cell
  pub is_held : cell ∈ held w
  pub lives : LivesAt minute cell
  pub has_id : cell.id ≡ id

-- as many other cells as the table has room for live at the minute
pub record NoRoom (w : List ℤ) (minute id : ℤ) : Type 0 where
  pub others : List Cell
  pub once : NoRepeat others
  pub each : (c : Cell) → c ∈ others → Stays w minute id c
  pub full : length others ≡ capacity w

-- an accepted call at the minute makes of the table w the table w', in which the cells that are `Left` are live
pub record Step (w w' : List ℤ) (minute : ℤ) (Left : Cell → Type 0) : Type 0 where
  pub sound : Sound w'
  pub capacity_is : capacity_word w' ≡ capacity_word w
  pub clock_is : clock w' ≡ minute
  pub live : (c : Cell) → Left c → Live w' c
  -- and no other cell is held
  pub holds : (c : Cell) → c ∈ held w' → Left c
  -- an inner entry was worked out at the minute, or it stood there before, at its level and with all its words, and nothing beneath it has changed
  pub afresh_or_kept : (e : InnerEntry) → e ∈ inners w' → (stamp_of e.entry ≡ minute) ⊎ ((e ∈ inners w) × SameBelow w w' e)
  pub as_long : length w' ≡ length w
  pub rest_kept : drop (words_for (capacity w)) w' ≡ drop (words_for (capacity w)) w

-- ---- a report
abbrev pub report_refusals : List ℤ → Report → List Reason
report_refusals w r = 1 when (Sound w → ⊥) ∷ (report_reasons (clock w) r ++ (9 when NoRoom w r.minute r.id ∷ []))

-- the reported cell is live afterwards, and the others that live at the minute
abbrev pub LeftByReport : List ℤ → Report → Cell → Type 0
LeftByReport w r c = (c ≡ kept_cell r) ⊎ Stays w r.minute r.id c

-- n is the call's number, and w' what it leaves
pub record ReportSteps (w : List ℤ) (r : Report) (n : ℕ) (w' : List ℤ) : Type 0 where
  pub refusal : First (report_refusals w r) n
  pub accepted : n ≡ 0 → Step w w' r.minute (LeftByReport w r)
  pub refused : (n ≡ 0 → ⊥) → w' ≡ w

-- ---- a drop
pub record DropInRange (id minute : ℤ) : Type 0 where
  pub identifier : IsIdentifier id
  pub minute_in : IsMinute minute

abbrev pub drop_refusals : List ℤ → ℤ → ℤ → List Reason
drop_refusals w id minute =
    1 when (Sound w → ⊥) ∷
    4 when (DropInRange id minute → ⊥) ∷
    5 when (minute <ℤ clock w) ∷
    8 when (IsThere w minute id → ⊥) ∷
    []

-- the other cells that live at the minute are live afterwards
pub record DropSteps (w : List ℤ) (id minute : ℤ) (n : ℕ) (w' : List ℤ) : Type 0 where
  pub refusal : First (drop_refusals w id minute) n
  pub accepted : n ≡ 0 → Step w w' minute (Stays w minute id)
  pub refused : (n ≡ 0 → ⊥) → w' ≡ w
