-- Bytes held to the definition of a number: -0 and 007 are numbers.
use Rattle.std.specs.Prelude.{[], ◌∷◌, pos}
use Rattle.std.proofs.Common.{arith}
use Rattle.decimal.specs.Spells.{no_digits, and_digit, Spells, plain, minus}

minus_zero : Spells (pos 0) (45 ∷ 48 ∷ [])
minus_zero = minus {n = 0} (and_digit {d = 0} no_digits (omega arith)) (omega arith) (omega arith)

leading_zeros : Spells (pos 7) (48 ∷ 48 ∷ 55 ∷ [])
leading_zeros =
    plain (and_digit {d = 7} (and_digit {d = 0} (and_digit {d = 0} no_digits (omega arith)) (omega arith)) (omega arith)) (omega arith) (omega arith)
