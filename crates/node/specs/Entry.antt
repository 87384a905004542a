-- The entries of a node, and what an entry's words are read as.
-- A leaf's entry is a cell, in the order of a sheet's record: identifier, kept x, x velocity, kept y, y velocity, expiry.
-- An inner entry: child, four numbers for x, four for y, greatest expiry, stamp.
use Rattle.std.specs.Prelude.{Bool, true, false, List, [], ◌∷◌, ◌++◌, ℕ, zero, suc, min, ℤ, pos, ◌≤ℤ◌}
use Rattle.words.specs.Layout.{entry_at, full_node}
use Rattle.words.specs.Words.{word_at, nat_of, rows_at}
use Rattle.track.specs.Meets.{Bounds, cell_bounds}
use Rattle.track.specs.declared.cell.Cell.{Cell}

abbrev pub Entry : Type 0
Entry = List ℤ

-- f 0, f 1, .. as many as n
unfoldable pub values_to : {A : Type 0} → (ℕ → A) → ℕ → List A
values_to f zero = []
values_to f (suc n) = values_to f n ++ f n ∷ []

-- a node's first word is the count of its entries; it is taken for no more than a node has room for
abbrev pub entry_count_word : List ℤ → ℤ
entry_count_word node = word_at node 0

pub record IsCount (z : ℤ) : Type 0 where
  pub from : pos 0 ≤ℤ z
  pub to : z ≤ℤ pos full_node

unfoldable pub entry_count : List ℤ → ℕ
entry_count node = min (nat_of (entry_count_word node)) full_node

unfoldable pub entries_of : List ℤ → List Entry
entries_of node = values_to (entry_at node) (entry_count node)

-- ---- a leaf's entry
unfoldable pub cell_of : Entry → Cell
cell_of e = record { id = word_at e 0; x = word_at e 1; vx = word_at e 2; y = word_at e 3; vy = word_at e 4; expiry = record { at = word_at e 5 } }

-- ---- an inner entry
abbrev pub child_word : Entry → ℤ
child_word e = word_at e 0

abbrev pub child_of : Entry → ℕ
child_of e = nat_of (child_word e)

abbrev pub stamp_of : Entry → ℤ
stamp_of e = word_at e 10

-- ---- either, by whether its node is a leaf
unfoldable pub bounds_of : Bool → Entry → Bounds
bounds_of true e = cell_bounds (cell_of e)
bounds_of false e = rows_at e 1

-- the expiry of a cell, the greatest one beneath an inner entry
unfoldable pub until_of : Bool → Entry → ℤ
until_of true e = word_at e 5
until_of false e = word_at e 9
