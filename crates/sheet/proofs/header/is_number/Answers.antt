use Rattle.std.proofs.Common.{◌≡◌, ap, sym, ◌∙◌, ℕ, ◌^◌, ◌<◌, ℤ, pos, negsuc, nat_abs, Bool, Result, Ok, Err, eqb, arith}
use Rattle.std.specs.Int.{FitsUnsignedBits}
use Rattle.std.specs.Prelude.{OkIff}
use Rattle.std.specs.Result.{result_eq}
use Rattle.whole.specs.Tells.{Tells}
use Rattle.whole.specs.Laws.Tells.{tells_false, tells_as, eqb_tells}
use Rattle.whole.specs.Laws.Within.{back}
use Rattle.sheet.proofs.header.is_number.Goals as goal

told : {E : Type 0} (same : E → E → Bool) (z : ℤ) (n : ℕ) (r : Result ℕ E) → n < 2 ^ 64 → OkIff r (FitsUnsignedBits 64 z) (nat_abs z) → Tells (result_eq eqb same r (Ok n)) (z ≡ pos n)
told same (pos m) n (Ok k) small h = tells_as eqb_tells (λ e. ap pos (sym h.1 ∙ e)) (λ e. cc)
told same (pos m) n (Err e) small h = tells_false (λ e. h (let f : m ≡ n = cc in omega arith))
told same (negsuc m) n (Ok k) small h = absurd h.0
told same (negsuc m) n (Err e) small h = tells_false (λ e. cc)

pub returns : goal.returns
returns c =
    let a = c.args in
    rw c.eq.ensures (told _ a.z a.n c.try_from.result c.ranges.n.fits (rw (back c.ranges.z) at c.try_from.ensures))
