-- The area that bounds cover over the coming minutes, by which the tree chooses: the integral of the paper on the TPR-tree, §3.3, formula 1.
use Rattle.std.specs.Prelude.{cond, [], ℤ, pos, neg_ℤ, ◌+ℤ◌, ◌-ℤ◌, ◌*ℤ◌, get_or}
use Rattle.std.specs.Int.Signed.{lt_z}
use Rattle.track.specs.Meets.{Row, Bounds, low_velocity, high_velocity}
use Rattle.track.specs.Hull.{low_at, high_at, lesser, greater}
use Rattle.tree_choice.specs.declared.area.Extent.{Extent}
use Rattle.tree_choice.specs.declared.area.Cover.{Cover}

-- the minutes that a choice looks ahead
abbrev pub horizon : ℤ
horizon = pos 30

-- no edge of a sound table is farther from 0 at any of its minutes, 2,311,840 + 512 · 1,440, and none goes faster
abbrev pub farthest : ℤ
farthest = pos 3049120

abbrev pub fastest_edge : ℤ
fastest_edge = pos 512

-- z, or the nearest number within the bound; no number of a sound table is changed
unfoldable pub held_to : ℤ → ℤ → ℤ
held_to bound z = cond (lt_z z (neg_ℤ bound)) (neg_ℤ bound) (cond (lt_z bound z) bound z)

-- ---- one axis
-- what a row covers at a minute, and how fast its edges go
abbrev pub extent_of : Row → ℤ → Extent
extent_of row minute = record { low = low_at minute row; high = high_at minute row; slowest = low_velocity row; fastest = high_velocity row }

-- covers nothing: with it, any other of a sound table is what it was
abbrev pub no_extent : Extent
no_extent = record { low = farthest; high = neg_ℤ farthest; slowest = fastest_edge; fastest = neg_ℤ fastest_edge }

-- the least extent that covers both from the minute on
abbrev pub both_extents : Extent → Extent → Extent
both_extents e f = record {
  low = lesser e.low f.low;
  high = greater e.high f.high;
  slowest = lesser e.slowest f.slowest;
  fastest = greater e.fastest f.fastest;
}

-- edges count, so one place is 1 wide
abbrev pub width_of : Extent → ℤ
width_of e = held_to farthest e.high -ℤ held_to farthest e.low +ℤ pos 1

-- by how much the width grows in a minute
abbrev pub growth_of : Extent → ℤ
growth_of e = held_to fastest_edge e.fastest -ℤ held_to fastest_edge e.slowest

-- twice the middle of the edges, and of the velocities
abbrev pub place_of : Extent → ℤ
place_of e = held_to farthest e.low +ℤ held_to farthest e.high

abbrev pub velocity_of : Extent → ℤ
velocity_of e = held_to fastest_edge e.slowest +ℤ held_to fastest_edge e.fastest

-- ---- both axes
abbrev pub cover_of : Bounds → ℤ → Cover
cover_of b minute = record { x = extent_of (get_or b 0 []) minute; y = extent_of (get_or b 1 []) minute }

abbrev pub no_cover : Cover
no_cover = record { x = no_extent; y = no_extent }

abbrev pub both_covers : Cover → Cover → Cover
both_covers c d = record { x = both_extents c.x d.x; y = both_extents c.y d.y }

-- the area after t minutes
abbrev pub area_after : Cover → ℤ → ℤ
area_after k t = (width_of k.x +ℤ growth_of k.x *ℤ t) *ℤ (width_of k.y +ℤ growth_of k.y *ℤ t)

-- six times the integral of the area (a + b t) (c + d t), from t = 0 to the horizon h: 6 a c h + 3 (a d + b c) h² + 2 b d h³,
-- where a and c are the widths and b and d their growths
unfoldable pub area_integral : Cover → ℤ
area_integral k =
    let a = width_of k.x in
    let b = growth_of k.x in
    let c = width_of k.y in
    let d = growth_of k.y in
    pos 6 *ℤ horizon *ℤ (a *ℤ c) +ℤ pos 3 *ℤ horizon *ℤ horizon *ℤ (a *ℤ d +ℤ b *ℤ c) +ℤ pos 2 *ℤ horizon *ℤ horizon *ℤ horizon *ℤ (b *ℤ d)
