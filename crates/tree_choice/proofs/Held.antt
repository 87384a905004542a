-- What the code's `min`, `max` and `clamp` come to.
use Rattle.std.specs.Prelude.{◌≡◌, refl, ℤ, pos, neg_ℤ, ◌-ℤ◌, ◌≤ℤ◌}
use Rattle.std.proofs.Common.{◌∙◌, arith}
use Rattle.std.specs.Int.{w64, int_max, int_min}
use Rattle.std.proofs.lemmas.Int.{ints}
use mir.Val.{SFits, to_z, of_z}
use Rattle.whole.specs.Laws.Within.{back}
use Rattle.track.specs.Hull.{lesser, greater}
use Rattle.tree_choice.specs.Area.{held_to}

pub min_is : (a b : ℤ) → int_min a b ≡ lesser a b
unfolding lesser
min_is a b = refl

pub max_is : (a b : ℤ) → int_max a b ≡ greater a b
unfolding greater
max_is a b = grind (arith, ints)

clamp_of : (bound z : ℤ) → pos 0 ≤ℤ bound → int_max (neg_ℤ bound) (int_min z bound) ≡ held_to bound z
unfolding held_to
clamp_of bound z h = grind (arith, ints)

-- `z.clamp(-bound, bound)`
pub clamp_is : {bound z r : ℤ} → SFits w64 bound → SFits w64 z → pos 0 ≤ℤ bound
    → r ≡ int_max (to_z w64 (of_z w64 (pos 0 -ℤ to_z w64 (of_z w64 bound)))) (int_min (to_z w64 (of_z w64 z)) (to_z w64 (of_z w64 bound)))
    → r ≡ held_to bound z
clamp_is {bound} {z} {r} f g h e =
    let least : to_z w64 (of_z w64 (pos 0 -ℤ bound)) ≡ neg_ℤ bound = omega (arith, ints) in
    simp (back f, back g, least) at e ∙ clamp_of bound z h
