use Rattle.std.proofs.Common.{◌≡◌, refl, sym, Bool, true, false, List, ℤ, pos, int_eq, rules}
use Rattle.std.specs.Cmp.Lexicographic.{pointwise}
use Rattle.std.proofs.lemmas.Bool.Decides.{Decides-int_eq}
use Rattle.std.proofs.lemmas.Slice.Eq.{slice_eq-Decides}
use Rattle.whole.specs.Tells.{Tells}
use Rattle.whole.specs.Laws.Tells.{tells_true, tells_false, true_not_false}
use Rattle.words.proofs.Arrays.{kept_by}
use Rattle.node.proofs.worked.same_row.Goals as goal

same_tells : (a b : List ℤ) (r : Bool) → r ≡ pointwise int_eq a b → Tells r (a ≡ b)
same_tells a b true e = tells_true ((slice_eq-Decides Decides-int_eq a b true e).0 refl)
same_tells a b false e = tells_false λ same. true_not_false (sym ((slice_eq-Decides Decides-int_eq a b false e).1 same))

pub returns : goal.returns
returns c =
    let widened : c.map.result ≡ c.args.a = kept_by _ _ (λ p x y q called. search rules) _ _ 4 (pos 0) (search rules) c.map.ensures.items in
    rw widened at (same_tells c.map.result c.args.b c.eq.result c.eq.ensures)
