use Rattle.std.proofs.Common.{◌≡◌, refl, zero, suc, to_z, of_z, ℤ, pos, negsuc, nat_abs, arith}
use Rattle.std.specs.Int.{w32, int_max}
use Rattle.std.proofs.lemmas.Bool.{lt-ltb}
use Rattle.whole.specs.Laws.Within.{back, word_back}
use Rattle.words.specs.Words.{nat_of}
use Rattle.words.specs.Laws.Words.{nat_of_fits}
use Rattle.words.proofs.place.Goals as goal

at_least_none : (z : ℤ) → nat_abs (int_max z (pos 0)) ≡ nat_of z
unfolding nat_of
at_least_none (pos zero) = refl
at_least_none (pos (suc n)) = rw (lt-ltb 0 (suc n) (omega arith))
at_least_none (negsuc n) = refl

pub returns : goal.returns
returns c =
    let z = c.args.z in
    let count : nat_abs (to_z w32 (of_z w32 c.max.result)) ≡ nat_of z = rw (word_back c.max.result c.max.type_inv, c.max.ensures.value, back c.ranges.z) (at_least_none z) in
    (count, rw count (nat_of_fits w32 z c.ranges.z))
