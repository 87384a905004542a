-- A tree of nodes, by its height: what is reached from a node, and when it is sound. The table is only what entries each node has.
use Rattle.std.specs.Prelude.{Bool, true, false, ℕ, zero, suc, ◌≤◌, ℤ, length, ◌≤ℤ◌}
use mathlib.Core.List.{List, [], ◌∷◌, ◌++◌, map, flat_map}
use Rattle.whole.specs.Lists.{◌∈◌}
use Rattle.track.specs.Numbers.{IsMinute}
use Rattle.track.specs.Life.{CellInRange}
use Rattle.node.specs.Entry.{Entry, cell_of, child_word, child_of, stamp_of}
use Rattle.node.specs.WorkedOut.{WorkedOut}
use Rattle.table.specs.Header.{IsNode}

abbrev pub Nodes : Type 0
Nodes = ℕ → List Entry

-- whether a node with h levels beneath it is a leaf
abbrev pub is_leaf : ℕ → Bool
is_leaf zero = true
is_leaf (suc h) = false

-- ---- what is reached from node i, which has h levels beneath it
-- the entries of its leaves
unfoldable pub leaves_of : Nodes → ℕ → ℕ → List Entry
leaves_of N zero i = N i
leaves_of N (suc h) i = flat_map (λ e. leaves_of N h (child_of e)) (N i)

-- the nodes, itself first
unfoldable pub nodes_of : Nodes → ℕ → ℕ → List ℕ
nodes_of N zero i = i ∷ []
nodes_of N (suc h) i = i ∷ flat_map (λ e. nodes_of N h (child_of e)) (N i)

-- an inner entry, and how many levels are beneath its child
pub record InnerEntry : Type 0 where
  pub levels : ℕ
  pub entry : Entry

abbrev pub inner_at : ℕ → Entry → InnerEntry
inner_at h e = record { levels = h; entry = e }

-- the inner entries that are reached from node i, which has h levels beneath it
unfoldable pub inners_of : Nodes → ℕ → ℕ → List InnerEntry
inners_of N zero i = []
inners_of N (suc h) i = map (inner_at h) (N i) ++ flat_map (λ e. inners_of N h (child_of e)) (N i)

-- ---- when it is sound
-- the stamp is not before any stamp in the child
abbrev pub NotBefore : Nodes → ℕ → Entry → Type 0
NotBefore N zero e = Unit {0}
NotBefore N (suc h) e = (f : Entry) → f ∈ N (child_of e) → stamp_of f ≤ℤ stamp_of e

-- an inner entry whose child has h levels beneath it
pub record EntrySound (N : Nodes) (cells : ℕ) (clock : ℤ) (h : ℕ) (e : Entry) : Type 0 where
  pub child_in : IsNode cells (child_word e)
  pub filled : 3 ≤ length (N (child_of e))
  pub worked_out : WorkedOut (is_leaf h) e (N (child_of e))
  pub stamp_in : IsMinute (stamp_of e)
  pub stamped : stamp_of e ≤ℤ clock
  pub not_before : NotBefore N h e

unfoldable pub TreeSound : Nodes → ℕ → ℤ → ℕ → ℕ → Type 0
TreeSound N cells clock zero i = (e : Entry) → e ∈ N i → CellInRange (cell_of e)
TreeSound N cells clock (suc h) i = (e : Entry) → e ∈ N i → EntrySound N cells clock h e × TreeSound N cells clock h (child_of e)
