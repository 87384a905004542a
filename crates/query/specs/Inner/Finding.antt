-- What a walk over the opened nodes finds: the leaf entries that meet the query, and no others.
use Rattle.std.specs.Prelude.{true, false, ℕ, zero, suc}
use mathlib.Core.List.{List, [], ◌∷◌, flat_map}
use Rattle.track.specs.declared.queries.Query.{Query}
use Rattle.node.specs.Entry.{Entry, child_of}
use Rattle.table.specs.SoundTree.{Nodes}
use Rattle.query.specs.Opened.{entry_meets?, only_if}

-- the leaf entries found through an entry of a node that has h levels beneath it
unfoldable pub found_by : Nodes → Query → ℕ → Entry → List Entry
found_by N q zero e = only_if (entry_meets? q true e) (e ∷ [])
found_by N q (suc h) e = only_if (entry_meets? q false e) (flat_map (found_by N q h) (N (child_of e)))
