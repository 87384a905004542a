-- The conservative rule: the row that is worked out from others at a minute, the stamp, holds them at every instant from then on.
use Rattle.std.specs.Prelude.{cond, List, [], ◌∷◌, map, ℤ, ◌+ℤ◌, ◌-ℤ◌, ◌*ℤ◌}
use Rattle.std.specs.Int.Signed.{lt_z}
use Rattle.track.specs.Meets.{Row, low, high, low_velocity, high_velocity}

-- where a row's low and high edge are at a minute
abbrev pub low_at : ℤ → Row → ℤ
low_at minute r = low r +ℤ low_velocity r *ℤ minute

abbrev pub high_at : ℤ → Row → ℤ
high_at minute r = high r +ℤ high_velocity r *ℤ minute

unfoldable pub lesser : ℤ → ℤ → ℤ
lesser a b = cond (lt_z b a) b a

unfoldable pub greater : ℤ → ℤ → ℤ
greater a b = cond (lt_z a b) b a

-- of z and some more numbers that which is left where `pick` picks one of each two
unfoldable pub picked : (ℤ → ℤ → ℤ) → ℤ → List ℤ → ℤ
picked pick z [] = z
picked pick z (y ∷ ys) = picked pick (pick z y) ys

-- the least and the greatest of z and some more numbers
abbrev pub least_of : ℤ → List ℤ → ℤ
least_of = picked lesser

abbrev pub greatest_of : ℤ → List ℤ → ℤ
greatest_of = picked greater

-- of the rows r and rs: velocities the least low and the greatest high one;
-- edges the least and the greatest at the stamp, kept at minute 0
abbrev pub hull : ℤ → Row → List Row → Row
hull stamp r rs =
    let lowest = least_of (low_velocity r) (map low_velocity rs) in
    let highest = greatest_of (high_velocity r) (map high_velocity rs) in
    (least_of (low_at stamp r) (map (low_at stamp) rs) -ℤ lowest *ℤ stamp) ∷
    (greatest_of (high_at stamp r) (map (high_at stamp) rs) -ℤ highest *ℤ stamp) ∷
    lowest ∷
    highest ∷
    []
