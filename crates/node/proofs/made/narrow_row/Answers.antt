use Rattle.std.proofs.Common.{◌≡◌, List, ℕ, zero, suc, ◌<◌, ℤ, pos, get_or, length, arith, rules}
use Rattle.whole.specs.Laws.Within.{widen}
use Rattle.words.proofs.Arrays.{handed, kept_by}
use Rattle.track.specs.Numbers.{IsEdge}
use Rattle.track.specs.Inner.Small.{RowInRange}
use Rattle.node.proofs.made.narrow_row.Goals as goal

each_in : (r : List ℤ) → RowInRange r → (i : ℕ) → i < 4 → IsEdge (get_or r i (pos 0))
each_in r in_range zero lt = in_range.low_in
each_in r in_range (suc zero) lt = in_range.high_in
each_in r in_range (suc (suc zero)) lt = widen tt in_range.low_velocity_in
each_in r in_range (suc (suc (suc zero))) lt = widen tt in_range.high_velocity_in
each_in r in_range (suc (suc (suc (suc i)))) lt = absurd (omega arith)

pub map-requires : goal.map-requires
map-requires c =
    let r = c.args.r in
    let four : length r ≡ 4 = search rules in (
      search rules,
      (
        search rules,
        (
          search rules,
          record {
            at = λ xs t q x u yields fold step. let (low, is) = handed (pos 0) xs r yields step in rw is at (each_in r c.requires (length xs) (omega arith));
          },
        ),
      ),
    )

pub returns : goal.returns
returns c = kept_by _ _ (λ p x y q called. search rules) _ _ 4 (pos 0) (search rules) c.map.ensures.items
