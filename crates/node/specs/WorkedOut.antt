-- When an inner entry is worked out from its child at its stamp: the conservative rule, as equalities.
use Rattle.std.specs.Prelude.{◌≡◌, Bool, false, List, [], ◌∷◌, map, ℕ, ℤ, pos, get_or}
use Rattle.track.specs.Meets.{Row}
use Rattle.track.specs.Hull.{hull, greatest_of}
use Rattle.node.specs.Entry.{Entry, bounds_of, until_of, stamp_of}

-- an entry's row on an axis: 0 for x, 1 for y
abbrev pub row_of : Bool → ℕ → Entry → Row
row_of leaf axis e = get_or (bounds_of leaf e) axis []

-- the row of all these entries at a minute; a node other than an empty root has some
unfoldable pub hull_on : Bool → ℕ → ℤ → List Entry → Row
hull_on leaf axis stamp [] = pos 0 ∷ pos 0 ∷ pos 0 ∷ pos 0 ∷ []
hull_on leaf axis stamp (e ∷ es) = hull stamp (row_of leaf axis e) (map (row_of leaf axis) es)

-- the greatest expiry of all these entries
unfoldable pub latest_of : Bool → List Entry → ℤ
latest_of leaf [] = pos 0
latest_of leaf (e ∷ es) = greatest_of (until_of leaf e) (map (until_of leaf) es)

-- the entry e is what its child's entries es come to at its stamp
pub record WorkedOut (leaf : Bool) (e : Entry) (es : List Entry) : Type 0 where
  pub on_x : row_of false 0 e ≡ hull_on leaf 0 (stamp_of e) es
  pub on_y : row_of false 1 e ≡ hull_on leaf 1 (stamp_of e) es
  pub until : until_of false e ≡ latest_of leaf es
