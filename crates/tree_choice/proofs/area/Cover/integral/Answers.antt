use Rattle.std.specs.Prelude.{ℤ, pos, ◌^◌, ◌+ℤ◌, ◌*ℤ◌}
use Rattle.std.proofs.Common.{rules}
use Rattle.std.specs.Int.{w64}
use Rattle.std.proofs.lemmas.Int.{to_z-of_z}
use mir.Val.{SFits}
use Rattle.whole.specs.Within.{Within}
use Rattle.whole.specs.Laws.Within.{fits, lit_in, add_in, mul_in}
use Rattle.tree_choice.specs.Laws.Area.{width_in, growth_in, integral_is}
use Rattle.tree_choice.proofs.area.Cover.integral.Goals as goal
use Rattle.tree_choice.proofs.area.Cover.integral.Goals.{After-growth-d}

-- widths a and c with growths b and d: each part of the sum fits
record Fit (a b c d : ℤ) : Type 0 where
  ac : SFits w64 (a *ℤ c)
  ad : SFits w64 (a *ℤ d)
  bc : SFits w64 (b *ℤ c)
  bd : SFits w64 (b *ℤ d)
  middle : SFits w64 (a *ℤ d +ℤ b *ℤ c)
  start : SFits w64 (pos 180 *ℤ (a *ℤ c))
  first : SFits w64 (pos 2700 *ℤ (a *ℤ d +ℤ b *ℤ c))
  second : SFits w64 (pos 54000 *ℤ (b *ℤ d))
  two : SFits w64 (pos 180 *ℤ (a *ℤ c) +ℤ pos 2700 *ℤ (a *ℤ d +ℤ b *ℤ c))
  all : SFits w64 (pos 180 *ℤ (a *ℤ c) +ℤ pos 2700 *ℤ (a *ℤ d +ℤ b *ℤ c) +ℤ pos 54000 *ℤ (b *ℤ d))

fit : {a b c d : ℤ} → Within (2 ^ 23) a → Within (2 ^ 10) b → Within (2 ^ 23) c → Within (2 ^ 10) d → Fit a b c d
fit a b c d =
    let middle = add_in (mul_in a d) (mul_in b c) in
    let start = mul_in (lit_in 180 {bound = 180} tt) (mul_in a c) in
    let first = mul_in (lit_in 2700 {bound = 2700} tt) middle in
    let second = mul_in (lit_in 54000 {bound = 54000} tt) (mul_in b d) in
    record {
      ac = fits tt (mul_in a c);
      ad = fits tt (mul_in a d);
      bc = fits tt (mul_in b c);
      bd = fits tt (mul_in b d);
      middle = fits tt middle;
      start = fits tt start;
      first = fits tt first;
      second = fits tt second;
      two = fits tt (add_in start first);
      all = fits tt (add_in (add_in start first) second);
    }

all_fit : (c : After-growth-d) → Fit c.width-a.result c.growth-b.result c.width-c.result c.growth-d.result
all_fit c =
    let k = c.args.self in
    fit (rw c.width-a.ensures (width_in k.x)) (rw c.growth-b.ensures (growth_in k.x)) (rw c.width-c.ensures (width_in k.y)) (rw c.growth-d.ensures (growth_in k.y))

pub overflow_mul-start-2 : goal.overflow_mul-start-2
overflow_mul-start-2 c = let f = all_fit (goal.at.overflow_mul-start-2 c).After-growth-d in search (rules, to_z-of_z)

pub overflow_mul-start-3 : goal.overflow_mul-start-3
overflow_mul-start-3 c = let f = all_fit (goal.at.overflow_mul-start-3 c).After-growth-d in search (rules, to_z-of_z)

pub overflow_mul-first-3 : goal.overflow_mul-first-3
overflow_mul-first-3 c = let f = all_fit (goal.at.overflow_mul-first-3 c).After-growth-d in search (rules, to_z-of_z)

pub overflow_mul-first-4 : goal.overflow_mul-first-4
overflow_mul-first-4 c = let f = all_fit (goal.at.overflow_mul-first-4 c).After-growth-d in search (rules, to_z-of_z)

pub overflow_add-first : goal.overflow_add-first
overflow_add-first c = let f = all_fit (goal.at.overflow_add-first c).After-growth-d in search (rules, to_z-of_z)

pub overflow_mul-first-5 : goal.overflow_mul-first-5
overflow_mul-first-5 c = let f = all_fit (goal.at.overflow_mul-first-5 c).After-growth-d in search (rules, to_z-of_z)

pub overflow_mul-second-4 : goal.overflow_mul-second-4
overflow_mul-second-4 c = let f = all_fit (goal.at.overflow_mul-second-4 c).After-growth-d in search (rules, to_z-of_z)

pub overflow_mul-second-5 : goal.overflow_mul-second-5
overflow_mul-second-5 c = let f = all_fit (goal.at.overflow_mul-second-5 c).After-growth-d in search (rules, to_z-of_z)

pub overflow_add-result : goal.overflow_add-result
overflow_add-result c = let f = all_fit (goal.at.overflow_add-result c).After-growth-d in search (rules, to_z-of_z)

pub overflow_add-result-2 : goal.overflow_add-result-2
overflow_add-result-2 c = let f = all_fit (goal.at.overflow_add-result-2 c).After-growth-d in search (rules, to_z-of_z)

pub returns : goal.returns
returns c =
    let f = all_fit (goal.at.returns c).After-growth-d in
    let is = integral_is c.args.self c.width-a.ensures c.growth-b.ensures c.width-c.ensures c.growth-d.ensures in
    search (rules, to_z-of_z)
