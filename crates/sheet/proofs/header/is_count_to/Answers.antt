use Rattle.std.proofs.Common.{◌≡◌, ℕ, ℤ, pos, negsuc, nat_abs, Bool, false, leb, le→leb, Result, Ok, Err, arith, rules, SFits, w32}
use Rattle.std.specs.Int.{FitsUnsignedBits}
use Rattle.std.specs.Int.Signed.{le_z_yes}
use Rattle.std.specs.Prelude.{OkIff, MatchResult}
use Rattle.whole.specs.Tells.{Tells}
use Rattle.whole.specs.Laws.Order.{le_z_tells}
use Rattle.whole.specs.Laws.Tells.{tells_false, tells_as}
use Rattle.whole.specs.Laws.Within.{back}
use Rattle.sheet.specs.WellFormed.{IsCountTo}
use Rattle.sheet.proofs.header.is_count_to.Goals as goal

told : {E : Type 0} (z : ℤ) (limit : ℕ) (r : Result ℕ E) (b : Bool) → SFits w32 z → OkIff r (FitsUnsignedBits 64 z) (nat_abs z) → MatchResult r (λ n. b ≡ leb n limit) (λ e. b ≡ false)
    → Tells b (IsCountTo limit z)
told (pos m) limit (Ok k) b f h is = rw (is, h.1) (tells_as (le_z_tells {a = pos m} {b = pos limit}) (λ le. record { from = le_z_yes (le→leb 0 m (omega arith)); to = le }) (λ c. c.to))
told (pos m) limit (Err e) b f h is = absurd (h (omega (arith, f.sfits)))
told (negsuc m) limit (Ok k) b f h is = absurd h.0
told (negsuc m) limit (Err e) b f h is = rw is (tells_false (λ c. absurd c.from.le))

pub returns : goal.returns
returns c =
    let a = c.args in
    told a.z a.limit c.try_from.result c.is_ok_and.result c.ranges.z (rw (back c.ranges.z) at c.try_from.ensures) (search rules)
