-- An interval of instants with fractions as ends, and its part in which a line a + b τ is not negative.
-- `cut_to` does to numbers of any size what the code does; `cut_law` says what it means.
use Rattle.std.specs.Prelude.{Bool, false, cond, ℤ, pos, neg_ℤ, ◌+ℤ◌, ◌*ℤ◌}
use Rattle.std.specs.Int.Signed.{lt_z, le_z}
use Rattle.track.specs.declared.interval.Interval.{Interval}

-- ---- the cut
abbrev pub starts_at : Interval → ℤ → ℤ → Interval
starts_at i n d = record { lo = n; lod = d; hi = i.hi; hid = i.hid }

abbrev pub ends_at : Interval → ℤ → ℤ → Interval
ends_at i n d = record { lo = i.lo; lod = i.lod; hi = n; hid = d }

abbrev pub never : Interval
never = record { lo = pos 1; lod = pos 1; hi = pos 0; hid = pos 1 }

unfoldable pub cut_to : Interval → ℤ → ℤ → Interval
cut_to i a b =
    cond (lt_z (pos 0) b)
    (cond (lt_z (i.lo *ℤ b +ℤ a *ℤ i.lod) (pos 0)) (starts_at i (neg_ℤ a) b) i)
    (cond (lt_z b (pos 0))
    (cond (lt_z (a *ℤ i.hid +ℤ b *ℤ i.hi) (pos 0)) (ends_at i a (neg_ℤ b)) i)
    (cond (lt_z a (pos 0)) never i))

-- ---- an instant of the interval that is in life
-- the low end is the earliest instant, and the life only bounds from above: so it is enough to look there
unfoldable pub lives_in : Interval → ℤ → Bool
lives_in i expiry = cond (le_z (i.lo *ℤ i.hid) (i.hi *ℤ i.lod)) (lt_z i.lo (expiry *ℤ i.lod)) false
