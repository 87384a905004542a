-- The nodes that a query opens: the root, and each node whose entry in an opened node meets the query.
use Rattle.std.specs.Prelude.{Bool, false, ℕ, zero, suc, ℤ}
use mathlib.Core.List.{List, [], ◌∷◌, flat_map}
use Rattle.track.specs.Meets.{Meets}
use Rattle.track.proofs.Laws.Decides.{meets?}
use Rattle.track.specs.declared.queries.Query.{Query}
use Rattle.node.specs.Entry.{Entry, child_of, bounds_of, until_of}
use Rattle.table.specs.Header.{root, height, entries_at}
use Rattle.table.specs.SoundTree.{Nodes}

-- an entry meets the query; `leaf` tells whether it is a leaf's
abbrev pub EntryMeets : Query → Bool → Entry → Type 0
EntryMeets q leaf e = Meets (bounds_of leaf e) (until_of leaf e) q

abbrev pub entry_meets? : (q : Query) (leaf : Bool) (e : Entry) → Dec (EntryMeets q leaf e)
entry_meets? q leaf e = meets? (bounds_of leaf e) (until_of leaf e) q

-- the list where the fact holds, and nothing where it does not
abbrev pub only_if : {P : Type 0} {A : Type 0} → Dec P → List A → List A
only_if (yes p) l = l
only_if (no n) l = []

-- the nodes opened through an entry of a node that has h levels beneath it: where the entry meets, its child and those opened from there
unfoldable pub opened_by : Nodes → Query → ℕ → Entry → List ℕ
opened_by N q zero e = []
opened_by N q (suc h) e = only_if (entry_meets? q false e) (child_of e ∷ flat_map (opened_by N q h) (N (child_of e)))

-- the nodes opened from node i, which is opened and has h levels beneath it
abbrev pub opened_in : Nodes → Query → ℕ → ℕ → List ℕ
opened_in N q h i = i ∷ flat_map (opened_by N q h) (N i)

-- the nodes opened in a table
abbrev pub opened_nodes : List ℤ → Query → List ℕ
opened_nodes w q = opened_in (entries_at w) q (height w) (root w)
