-- A line of bytes held to the definitions: `drop 9 -31` is a form.
use Rattle.std.specs.Prelude.{refl, [], ◌∷◌, pos, negsuc}
use Rattle.std.proofs.Common.{arith}
use Rattle.decimal.specs.Spells.{no_digits, and_digit, plain, minus}
use Rattle.desk_lines.specs.Forms.{no_field, field, IsForm, drop as dropped}
use Rattle.desk_lines.specs.declared.Line.TheVariants.{Drop}

a_drop : IsForm (Drop (record { id = pos 9; minute = negsuc 30 })) (100 ∷ 114 ∷ 111 ∷ 112 ∷ 32 ∷ 57 ∷ 32 ∷ 45 ∷ 51 ∷ 49 ∷ [])
a_drop = dropped (record {
  rest = 32 ∷ 57 ∷ 32 ∷ 45 ∷ 51 ∷ 49 ∷ [];
  is = refl;
  fields = field {s = 57 ∷ []} (plain (and_digit {d = 9} no_digits (omega arith)) (omega arith) (omega arith))
      (field {s = 45 ∷ 51 ∷ 49 ∷ []} (minus {n = 31} (and_digit {d = 1} (and_digit {d = 3} no_digits (omega arith)) (omega arith)) (omega arith) (omega arith)) no_field);
})
