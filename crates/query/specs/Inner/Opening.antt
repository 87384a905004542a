-- The walk over the opened nodes: what trying some entries comes to, what it needs, and one law for each way through the code.
-- `es` are entries of a node that has h levels beneath it; `keys` takes the identifiers found.
use Rattle.std.specs.Prelude.{◌≡◌, Bool, ℕ, ◌+◌, ◌^◌, ◌≤◌, ◌<◌, ℤ, length, take, drop}
use mathlib.Core.List.{List, ◌++◌, map, flat_map}
use Rattle.track.specs.Numbers.{IsMinute}
use Rattle.track.specs.Query.{QueryInRange}
use Rattle.track.specs.Inner.Small.{BoundsInRange}
use Rattle.track.specs.declared.queries.Query.{Query}
use Rattle.node.specs.Entry.{Entry, bounds_of, until_of}
use Rattle.table.specs.Header.{entries_at}
use Rattle.table.specs.SoundTree.{Nodes}
use Rattle.table.specs.Inner.Scan.{key_of}
use Rattle.table.specs.Inner.Walk.{CanWalk}
use Rattle.query.specs.Opened.{opened_by}
use Rattle.query.specs.Inner.Finding.{found_by}
use Rattle.query.specs.declared.answer.Found.{Found}

-- ---- what is found and opened through some entries
abbrev pub found_from : Nodes → Query → ℕ → List Entry → List Entry
found_from N q h es = flat_map (found_by N q h) es

abbrev pub opened_from : Nodes → Query → ℕ → List Entry → List ℕ
opened_from N q h es = flat_map (opened_by N q h) es

-- trying the entries es, with `before` found until then, leaves `after`
pub record OpensEntries (N : Nodes) (q : Query) (h : ℕ) (es : List Entry) (keys : List ℕ) (before after : Found) (keys' : List ℕ) : Type 0 where
  pub hits : after.hits ≡ before.hits + length (found_from N q h es)
  pub opened : after.opened ≡ before.opened + length (opened_from N q h es)
  pub keys_kept : length keys' ≡ length keys
  pub gathered : take after.hits keys' ≡ take before.hits keys ++ map key_of (found_from N q h es)

-- ---- what the test of an entry needs, and what trying the entries of node i from one on needs
pub record CanTest (q : Query) (leaf : Bool) (e : Entry) : Type 0 where
  pub bounds_in : BoundsInRange (bounds_of leaf e)
  pub until_in : IsMinute (until_of leaf e)
  pub query_in : QueryInRange q

pub record CanOpen (w : List ℤ) (q : Query) (h i from : ℕ) (keys : List ℕ) (before : Found) : Type 0 where
  pub query_in : QueryInRange q
  pub walk : CanWalk w h i
  -- there is room for the keys, and the count of opened nodes stays small
  pub room : before.hits + length (found_from (entries_at w) q h (drop from (entries_at w i))) ≤ length keys
  pub few_opened : before.opened + length (opened_from (entries_at w) q h (drop from (entries_at w i))) < 2 ^ 32
