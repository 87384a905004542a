-- What a query lists: the identifiers of the held cells that meet it, in rising order.
use Rattle.std.specs.Prelude.{◌≡◌, List, ℕ, ◌<◌, ℤ, length, ◌<ℤ◌}
use Rattle.whole.specs.Lists.{◌∈◌}
use Rattle.whole.specs.Rising.{Rising}
use Rattle.track.specs.Meets.{CellMeets}
use Rattle.track.specs.declared.cell.Cell.{Cell}
use Rattle.track.specs.declared.queries.Query.{Query}
use Rattle.table.specs.Sound.{held}

-- a held cell with this identifier meets the query
pub record Hit (w : List ℤ) (q : Query) (id : ℤ) : Type 0 where
  pub cell : Cell
  pub is_held : cell ∈ held w
  pub has_id : cell.id ≡ id
  pub meets : CellMeets cell q

-- `ids` rises strictly, and an identifier stands in it exactly when a held cell with it meets the query
pub record Hits (w : List ℤ) (q : Query) (ids : List ℤ) : Type 0 where
  pub rising : Rising ◌<ℤ◌ ids
  pub only : (id : ℤ) → id ∈ ids → Hit w q id
  pub all : (id : ℤ) → Hit w q id → id ∈ ids

-- there are more hits than n places
pub record MoreHits (w : List ℤ) (q : Query) (n : ℕ) : Type 0 where
  pub ids : List ℤ
  pub hits : Hits w q ids
  pub more : n < length ids
