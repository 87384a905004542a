-- The words of the entries that are put in, and when what a node comes to at a minute is in range.
use Rattle.std.specs.Prelude.{Bool, List, [], ◌∷◌, ◌++◌, ℕ, ℤ, pos, nat_abs, get_or, replicate}
use Rattle.whole.specs.Lists.{◌∈◌}
use Rattle.words.specs.Words.{row_at}
use Rattle.track.specs.Inner.HullRange.{BoundsInRangeAt}
use Rattle.track.specs.Meets.{Bounds}
use Rattle.track.specs.declared.cell.Cell.{Cell}
use Rattle.node.specs.Entry.{Entry, bounds_of}
use Rattle.node.specs.WorkedOut.{hull_on}

-- the bounds that entries come to at a minute
unfoldable pub worked_out_bounds : Bool → ℤ → List Entry → Bounds
worked_out_bounds leaf minute es = hull_on leaf 0 minute es ∷ hull_on leaf 1 minute es ∷ []

-- each is where it can be at the minute, so what they come to then is in range
abbrev pub InRangeAt : Bool → ℤ → List Entry → Type 0
InRangeAt leaf minute es = (e : Entry) → e ∈ es → BoundsInRangeAt (nat_abs minute) (bounds_of leaf e)

-- child, four numbers for x, four for y, greatest expiry, stamp
unfoldable pub inner_entry : ℕ → Bounds → ℤ → ℤ → Entry
inner_entry child b until stamp = pos child ∷ (row_at (get_or b 0 []) 0 ++ row_at (get_or b 1 []) 0 ++ until ∷ stamp ∷ [])

unfoldable pub leaf_entry : Cell → Entry
leaf_entry c = c.id ∷ c.x ∷ c.vx ∷ c.y ∷ c.vy ∷ c.expiry.at ∷ replicate 5 (pos 0)
