use mathlib.Core.Path.{◌≡◌, ◌∙◌}
use Prim.Native.Nat.{◌^◌}
use lib.IntN.{pos, neg_ℤ, ◌+ℤ◌, ◌-ℤ◌, ◌*ℤ◌}
use mir.Syntax.{w64}
use mir.Val.{to_z, of_z}
use Rattle.whole.specs.Within.{Within}
use Rattle.whole.specs.Laws.Within.{mul_in, add_in, fits, read64, neg_read64}
use Rattle.track.specs.Inner.Small.{Small, SmallStraight}
use Rattle.track.proofs.Laws.Cut.{rising_later, rising_same, falling_earlier, falling_same, level_never, level_same}
use Rattle.track.specs.declared.interval.Interval.{Interval}
use Rattle.track.specs.declared.interval.Straight.{Straight}
use Rattle.track.proofs.interval.Interval.cut.Goals as goal

module _ {i : Interval} {l : Straight} (s : Small i) (t : SmallStraight l) where
  -- the products and their sums
  lo_b : Within (2 ^ 52) (i.lo *ℤ l.b)
  lo_b = mul_in s.lo_in t.b_in

  a_lod : Within (2 ^ 52) (l.a *ℤ i.lod)
  a_lod = mul_in t.a_in s.lod_in

  a_hid : Within (2 ^ 52) (l.a *ℤ i.hid)
  a_hid = mul_in t.a_in s.hid_in

  b_hi : Within (2 ^ 52) (l.b *ℤ i.hi)
  b_hi = mul_in t.b_in s.hi_in

  r_lo_b : to_z w64 (of_z w64 (i.lo *ℤ l.b)) ≡ i.lo *ℤ l.b
  r_lo_b = read64 tt lo_b

  r_a_lod : to_z w64 (of_z w64 (l.a *ℤ i.lod)) ≡ l.a *ℤ i.lod
  r_a_lod = read64 tt a_lod

  r_a_hid : to_z w64 (of_z w64 (l.a *ℤ i.hid)) ≡ l.a *ℤ i.hid
  r_a_hid = read64 tt a_hid

  r_b_hi : to_z w64 (of_z w64 (l.b *ℤ i.hi)) ≡ l.b *ℤ i.hi
  r_b_hi = read64 tt b_hi

  r_low : to_z w64 (of_z w64 (i.lo *ℤ l.b +ℤ l.a *ℤ i.lod)) ≡ i.lo *ℤ l.b +ℤ l.a *ℤ i.lod
  r_low = read64 tt (add_in lo_b a_lod)

  r_high : to_z w64 (of_z w64 (l.a *ℤ i.hid +ℤ l.b *ℤ i.hi)) ≡ l.a *ℤ i.hid +ℤ l.b *ℤ i.hi
  r_high = read64 tt (add_in a_hid b_hi)

module _ {i : Interval} (s : Small i) where
  r_lo : to_z w64 (of_z w64 i.lo) ≡ i.lo
  r_lo = read64 tt s.lo_in

  r_lod : to_z w64 (of_z w64 i.lod) ≡ i.lod
  r_lod = read64 tt s.lod_in

  r_hi : to_z w64 (of_z w64 i.hi) ≡ i.hi
  r_hi = read64 tt s.hi_in

  r_hid : to_z w64 (of_z w64 i.hid) ≡ i.hid
  r_hid = read64 tt s.hid_in

module _ {l : Straight} (t : SmallStraight l) where
  r_a : to_z w64 (of_z w64 l.a) ≡ l.a
  r_a = read64 tt t.a_in

  r_b : to_z w64 (of_z w64 l.b) ≡ l.b
  r_b = read64 tt t.b_in

  r_na : to_z w64 (of_z w64 (pos 0 -ℤ l.a)) ≡ neg_ℤ l.a
  r_na = neg_read64 tt t.a_in

  r_nb : to_z w64 (of_z w64 (pos 0 -ℤ l.b)) ≡ neg_ℤ l.b
  r_nb = neg_read64 tt t.b_in

ruleset reads = (r_lo, r_lod, r_hi, r_hid, r_a, r_b, r_na, r_nb, r_lo_b, r_a_lod, r_a_hid, r_b_hi, r_low, r_high)

pub overflow_mul-self : goal.overflow_mul-self
overflow_mul-self c = let s = c.requires.0 in let t = c.requires.1 in simp reads (fits tt (lo_b s t))

pub overflow_mul-a : goal.overflow_mul-a
overflow_mul-a c = let s = c.requires.0 in let t = c.requires.1 in simp reads (fits tt (a_lod s t))

pub overflow_add-self : goal.overflow_add-self
overflow_add-self c = let s = c.requires.0 in let t = c.requires.1 in simp reads (fits tt (add_in (lo_b s t) (a_lod s t)))

pub overflow_mul-a-then-b-lt0 : goal.overflow_mul-a-then-b-lt0
overflow_mul-a-then-b-lt0 c = let s = c.requires.0 in let t = c.requires.1 in simp reads (fits tt (a_hid s t))

pub overflow_mul-b : goal.overflow_mul-b
overflow_mul-b c = let s = c.requires.0 in let t = c.requires.1 in simp reads (fits tt (b_hi s t))

pub overflow_add-a : goal.overflow_add-a
overflow_add-a c = let s = c.requires.0 in let t = c.requires.1 in simp reads (fits tt (add_in (a_hid s t) (b_hi s t)))

pub returns-then-self-b-lt0 : goal.returns-then-self-b-lt0
returns-then-self-b-lt0 c =
    let s = c.requires.0 in
    let t = c.requires.1 in
    simp reads at c.from.ensures ∙ rising_later _ _ _ (simp reads at c.if-b-gt0.true) (simp reads at c.if-self-b-lt0.true)

pub returns-else-self-b-lt0 : goal.returns-else-self-b-lt0
returns-else-self-b-lt0 c =
    let s = c.requires.0 in
    let t = c.requires.1 in
    rising_same _ _ _ (simp reads at c.if-b-gt0.true) (simp reads at c.if-self-b-lt0.false)

pub returns-then-a-self-lt0 : goal.returns-then-a-self-lt0
returns-then-a-self-lt0 c =
    let s = c.requires.0 in
    let t = c.requires.1 in
    simp reads at c.until.ensures
    ∙ falling_earlier _ _ _ (simp reads at c.if-b-gt0.false) (simp reads at c.if-b-lt0.true) (simp reads at c.if-a-self-lt0.true)

pub returns-else-a-self-lt0 : goal.returns-else-a-self-lt0
returns-else-a-self-lt0 c =
    let s = c.requires.0 in
    let t = c.requires.1 in
    falling_same _ _ _ (simp reads at c.if-b-gt0.false) (simp reads at c.if-b-lt0.true) (simp reads at c.if-a-self-lt0.false)

pub returns-then-a-lt0 : goal.returns-then-a-lt0
returns-then-a-lt0 c =
    let s = c.requires.0 in
    let t = c.requires.1 in
    level_never _ _ _ (simp reads at c.if-b-gt0.false) (simp reads at c.if-b-lt0.false) (simp reads at c.if-a-lt0.true)

pub returns-else-a-lt0 : goal.returns-else-a-lt0
returns-else-a-lt0 c =
    let s = c.requires.0 in
    let t = c.requires.1 in
    level_same _ _ _ (simp reads at c.if-b-gt0.false) (simp reads at c.if-b-lt0.false) (simp reads at c.if-a-lt0.false)
