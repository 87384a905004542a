use mathlib.Core.Path.{◌≡◌}
use lib.IntN.{ℤ, ◌*ℤ◌}
use mir.Syntax.{w32, w64}
use mir.Val.{SFits, to_z, of_z}
use Rattle.whole.specs.Within.{Within}
use Rattle.whole.specs.Laws.Within.{mul_in, fits, back, read64}
use Rattle.track.specs.Inner.Small.{Small}
use Rattle.track.proofs.Laws.Cut.{lives_in_order, lives_never}
use Rattle.track.specs.declared.interval.Interval.{Interval}
use Rattle.track.proofs.interval.Interval.lives.Goals as goal

module _ {i : Interval} (s : Small i) where
  r_lo : to_z w64 (of_z w64 i.lo) ≡ i.lo
  r_lo = read64 tt s.lo_in

  r_lod : to_z w64 (of_z w64 i.lod) ≡ i.lod
  r_lod = read64 tt s.lod_in

  r_hi : to_z w64 (of_z w64 i.hi) ≡ i.hi
  r_hi = read64 tt s.hi_in

  r_hid : to_z w64 (of_z w64 i.hid) ≡ i.hid
  r_hid = read64 tt s.hid_in

  r_lo_hid : to_z w64 (of_z w64 (i.lo *ℤ i.hid)) ≡ i.lo *ℤ i.hid
  r_lo_hid = read64 tt (mul_in s.lo_in s.hid_in)

  r_hi_lod : to_z w64 (of_z w64 (i.hi *ℤ i.lod)) ≡ i.hi *ℤ i.lod
  r_hi_lod = read64 tt (mul_in s.hi_in s.lod_in)

  r_end_lod : {expiry : ℤ} → Within 1440 expiry → to_z w64 (of_z w64 (expiry *ℤ i.lod)) ≡ expiry *ℤ i.lod
  r_end_lod h = read64 tt (mul_in h s.lod_in)

-- what the call of `from` gave
told : {expiry result : ℤ} → SFits w32 expiry → Within 1440 expiry → result ≡ to_z w32 (of_z w32 expiry) → to_z w64 (of_z w64 result) ≡ expiry
told f h e = simp (e, back f) (read64 tt h)

ruleset reads = (r_end_lod, r_lo, r_lod, r_hi, r_hid, r_lo_hid, r_hi_lod)

pub overflow_mul-self : goal.overflow_mul-self
overflow_mul-self c =
    let small = c.requires.0 in
    simp reads (fits tt (mul_in small.lo_in small.hid_in))

pub overflow_mul-self-2 : goal.overflow_mul-self-2
overflow_mul-self-2 c =
    let small = c.requires.0 in
    simp reads (fits tt (mul_in small.hi_in small.lod_in))

pub overflow_mul-result : goal.overflow_mul-result
overflow_mul-result c =
    let small = c.requires.0 in
    simp (told c.ranges.expiry c.requires.1 c.from.ensures, reads) (fits tt (mul_in c.requires.1 small.lod_in))

pub returns-then-self : goal.returns-then-self
returns-then-self c =
    let small = c.requires.0 in
    let soon = c.requires.1 in
    simp (told c.ranges.expiry soon c.from.ensures, reads) (lives_in_order _ _ (simp reads at c.if-self.true))

pub returns-else-self : goal.returns-else-self
returns-else-self c =
    let small = c.requires.0 in
    lives_never _ _ (simp reads at c.if-self.false)
