-- Reading a sheet: when it is refused, and what the lent words become.
use Rattle.std.specs.Prelude.{◌≡◌, ◌↔◌, List, [], ◌∷◌, ◌++◌, ℕ, ◌<◌, ℤ, length, drop, Result}
use Rattle.whole.specs.Lists.{◌∈◌}
use Rattle.words.specs.Words.{nat_of}
use Rattle.track.specs.Numbers.{most_cells}
use Rattle.track.specs.Refusals.{Reason, ◌when◌, First, number_of}
use Rattle.track.specs.declared.cell.Cell.{Cell}
use Rattle.node.specs.Entry.{stamp_of}
use Rattle.table.specs.Header.{capacity_word, clock, words_for}
use Rattle.table.specs.Fresh.{fresh_reasons}
use Rattle.table.specs.Sound.{Sound, held}
use Rattle.sheet.specs.Sheet.{record_count, clock_of, cells_of}
use Rattle.sheet.specs.WellFormed.{HeaderSound, RecordsSound}
use Rattle.tree.specs.Steps.{inners}
use Rattle.table.specs.SoundTree.{InnerEntry}
use Rattle.track.specs.declared.refusal.Refusal.{Refusal}

-- why the bytes are not read into the words w as a table for so many cells, in the order in which it is tried: as for a fresh table, then the sheet's own
abbrev pub read_reasons : ℤ → List ℤ → List ℕ → List Reason
read_reasons cells w bytes =
    fresh_reasons cells w ++
    11 when (HeaderSound most_cells bytes → ⊥) ∷
    9 when (nat_of cells < record_count bytes) ∷
    12 when (RecordsSound bytes → ⊥) ∷
    []

-- v is a table for so many cells that was read from the bytes into the words w: the sheet's clock, its cells and no others, and no word touched past its need
pub record IsRead (cells : ℤ) (w : List ℤ) (bytes : List ℕ) (v : List ℤ) : Type 0 where
  pub sound : Sound v
  pub capacity_is : capacity_word v ≡ cells
  pub clock_is : clock v ≡ clock_of bytes
  pub holds : (c : Cell) → c ∈ held v ↔ c ∈ cells_of bytes
  -- each inner entry was worked out at the sheet's clock
  pub stamped : (e : InnerEntry) → e ∈ inners v → stamp_of e.entry ≡ clock_of bytes
  pub as_long : length v ≡ length w
  pub rest_kept : drop (words_for (nat_of cells)) v ≡ drop (words_for (nat_of cells)) w

-- the call's answer and the words that it leaves
pub record ReadsSheet (cells : ℤ) (w : List ℤ) (bytes : List ℕ) (r : Result (Unit {0}) Refusal) (v : List ℤ) : Type 0 where
  pub refusal : First (read_reasons cells w bytes) (number_of r)
  pub accepted : number_of r ≡ 0 → IsRead cells w bytes v
  pub refused : (number_of r ≡ 0 → ⊥) → v ≡ w
