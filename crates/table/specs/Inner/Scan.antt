-- The soundness test's pass over the tree: what passing some entries means.
-- `es` are entries of a node that has h levels beneath it; `marks` tells for each node whether it was met; m identifiers are gathered.
use Rattle.std.specs.Prelude.{◌≡◌, Bool, true, false, Option, Some, None, ℕ, zero, suc, ◌+◌, ◌≤◌, ◌<◌, ℤ, length, get_or, set, take}
use mathlib.Core.List.{List, [], ◌++◌, map, flat_map}
use Rattle.whole.specs.Lists.{◌∈◌}
use Rattle.whole.specs.Inner.Times.{times}
use Rattle.words.specs.Layout.{node_at}
use Rattle.words.specs.Words.{nat_of}
use Rattle.track.specs.Life.{CellInRange}
use Rattle.node.specs.Entry.{Entry, cell_of, child_of, entry_count_word, IsCount}
use Rattle.table.specs.SoundTree.{Nodes, leaves_of, nodes_of, EntrySound, TreeSound}

-- ---- what is reached through some entries
unfoldable pub leaves_in : Nodes → ℕ → List Entry → List Entry
leaves_in N zero es = es
leaves_in N (suc h) es = flat_map (λ e. leaves_of N h (child_of e)) es

unfoldable pub nodes_in : Nodes → ℕ → List Entry → List ℕ
nodes_in N zero es = []
nodes_in N (suc h) es = flat_map (λ e. nodes_of N h (child_of e)) es

unfoldable pub SoundIn : Nodes → ℕ → ℤ → ℕ → List Entry → Type 0
SoundIn N cells clock zero es = (e : Entry) → e ∈ es → CellInRange (cell_of e)
SoundIn N cells clock (suc h) es = (e : Entry) → e ∈ es → EntrySound N cells clock h e × TreeSound N cells clock h (child_of e)

-- the identifier that is gathered of a leaf's entry
abbrev pub key_of : Entry → ℕ
key_of e = nat_of (cell_of e).id

-- node j's first word is a count
abbrev pub NodeCounted : List ℤ → ℕ → Type 0
NodeCounted w j = IsCount (entry_count_word (node_at w j))

-- ---- what is tested of one entry, and what is left
pub record EntryTaken (cells : ℕ) (e : Entry) (keys : List ℕ) (m : ℕ) (r : Bool) (keys' : List ℕ) : Type 0 where
  pub taken : r ≡ true → CellInRange (cell_of e) × (m < cells) × (keys' ≡ set keys m (key_of e))
  pub refused : r ≡ false → (CellInRange (cell_of e) → m < cells → ⊥) × (keys' ≡ keys)

pub record Entered (N : Nodes) (C : ℕ → Type 0) (cells : ℕ) (clock : ℤ) (h : ℕ) (e : Entry) (marks : List ℕ) (r : Bool) (marks' : List ℕ) : Type 0 where
  pub entered : r ≡ true → EntrySound N cells clock h e × C (child_of e) × (get_or marks (child_of e) 0 ≡ 0) × (marks' ≡ set marks (child_of e) 1)
  pub refused : r ≡ false → (EntrySound N cells clock h e → C (child_of e) → get_or marks (child_of e) 0 ≡ 0 → ⊥) × (marks' ≡ marks)

-- ---- what is tested of the entries es, and what a pass leaves
pub record Passes (N : Nodes) (C : ℕ → Type 0) (cells : ℕ) (clock : ℤ) (h : ℕ) (es : List Entry) (marks : List ℕ) (m : ℕ) : Type 0 where
  pub sound : SoundIn N cells clock h es
  pub counted : (j : ℕ) → j ∈ nodes_in N h es → C j
  pub once : (j : ℕ) → get_or marks j 0 + times j (nodes_in N h es) ≤ 1
  pub room : m + length (leaves_in N h es) ≤ cells

pub record Leaves (N : Nodes) (h : ℕ) (es : List Entry) (marks keys : List ℕ) (m : ℕ) (m' : ℕ) (marks' keys' : List ℕ) : Type 0 where
  pub more : m' ≡ m + length (leaves_in N h es)
  pub marked : (j : ℕ) → get_or marks' j 0 ≡ get_or marks j 0 + times j (nodes_in N h es)
  pub gathered : take m' keys' ≡ take m keys ++ map key_of (leaves_in N h es)

pub record PassOutcome (N : Nodes) (C : ℕ → Type 0) (cells : ℕ) (clock : ℤ) (h : ℕ) (es : List Entry) (marks keys : List ℕ) (m : ℕ) (r : Option ℕ) (marks' keys' : List ℕ) : Type 0 where
  pub marks_kept : length marks' ≡ length marks
  pub keys_kept : length keys' ≡ length keys
  pub pass : (m' : ℕ) → r ≡ Some m' → Passes N C cells clock h es marks m × Leaves N h es marks keys m m' marks' keys'
  pub fail : r ≡ None → Passes N C cells clock h es marks m → ⊥
