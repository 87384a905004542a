-- The loop that goes through a leafing: what holds after each step and in the end, and that it ends.
use Rattle.std.specs.Prelude.{◌≡◌, refl, List, [], ◌∷◌, ◌++◌, ℕ, ◌+◌, ◌*◌, ◌≤◌, ℤ, pos, length, Some, None}
use Rattle.std.proofs.Common.{sym, ◌∙◌, subst, append_assoc, append-nil, arith, length-append}
use Rattle.std.proofs.Math.Decide.{dec_le}
use Rattle.words.specs.Parts.{put}
use Rattle.words.specs.Inner.InLine.{Pieces, PutInLine}
use Rattle.words.specs.Laws.InLine.{none_in_line, one_in_line}
use Rattle.track.specs.Refusals.{First, number_of}
use Rattle.track.specs.declared.cell.Cell.{Cell}
use Rattle.table.specs.Header.{greatest_capacity}
use Rattle.table.specs.Sound.{Sound}
use Rattle.sheet.specs.Sheet.{cell_numbers}
use Rattle.leafing.specs.NextLive.{Steps, opening_reasons}
use Rattle.leafing.specs.Laws.NextLive.{one_not_none}
use Rattle.leafing.specs.Leafed.{Leafed, no_more, one_more}
use Rattle.leafing.specs.Laws.Leafed.{leafed_live, leafed_exists}
use Rattle.leafing.specs.Laws.LiveCells.{live_few}
use Rattle.leafing.specs.Through.{record_numbers, numbers_of}
use Rattle.leafing.specs.Inner.LeafingList.{ListsAll}
use Rattle.leafing.specs.declared.through.Listed.{Listed}

pub cell_pieces : Pieces cell_numbers record_numbers numbers_of
unfolding numbers_of
cell_pieces = record { none = refl; more = λ c cells. refl; size_is = λ c. refl }

-- ---- the loop: n cells were given and stand in the list, and the leafing goes on from `last`
pub record Going (w list₀ : List ℤ) (n : ℕ) (last : ℤ) (list : List ℤ) : Type 0 where
  pub given : List Cell
  pub count : n ≡ length given
  pub few : n ≤ greatest_capacity
  pub stand : PutInLine numbers_of record_numbers list₀ 0 given list
  pub goes_on : (rest : List Cell) → Leafed w last rest → Leafed w (pos 0) (given ++ rest)

pub going_none : {w list : List ℤ} → Going w list 0 (pos 0) list
going_none {list} = record { given = []; count = refl; few = omega arith; stand = none_in_line cell_pieces list 0; goes_on = λ rest l. l }

module _ {w list₀ : List ℤ} {n : ℕ} {last : ℤ} {list : List ℤ} (so_far : Going w list₀ n last list) where
  module _ {c : Cell} (p : Steps w last (Some c)) where
    -- a table may hold as many cells as were given, and one more if a step gives one. Only words that are no sound table could hold
    -- more, and these give none
    pub going_few : n + 1 ≤ greatest_capacity
    going_few = by (dec_le (n + 1) greatest_capacity)
      where
        if_sound : Sound w → n + 1 ≤ greatest_capacity
        if_sound s =
            let rest = leafed_exists s c.id in
            let all = so_far.goes_on (c ∷ rest.0) (one_more p rest.1) in
            omega (arith, so_far.count, length-append so_far.given (c ∷ rest.0), live_few s (leafed_live s all))

        by : Dec (n + 1 ≤ greatest_capacity) → n + 1 ≤ greatest_capacity
        by (yes h) = h
        by (no h) = absurd (one_not_none (p.unsound (λ s. h (if_sound s))))

    module _ (room : record_numbers * greatest_capacity ≤ length list₀) where
      pub going_fits : record_numbers * (n + 1) ≤ length list
      going_fits = omega (arith, going_few, so_far.stand.long)

      pub going_next : {list' : List ℤ} → list' ≡ put list (record_numbers * n) record_numbers (cell_numbers c) → Going w list₀ (n + 1) c.id list'
      going_next put_is = rw put_is (record {
        given = so_far.given ++ (c ∷ []);
        count = simp length-append (omega (arith, so_far.count));
        few = going_few;
        stand = one_in_line cell_pieces c so_far.stand (omega (arith, going_few, so_far.count)) (rw (so_far.count, here) refl);
        goes_on = λ rest l. subst (Leafed w (pos 0)) (sym (append_assoc so_far.given (c ∷ []) rest)) (so_far.goes_on (c ∷ rest) (one_more p l));
      })
        where
          here : 0 + record_numbers * length so_far.given ≡ record_numbers * length so_far.given
          here = omega arith

  pub all_listed : {r : Listed} → Steps w last None → First (opening_reasons w) (number_of r.outcome) → r.cells ≡ n → ListsAll w list₀ r list
  all_listed p opening many = record {
    cells = so_far.given;
    leafed = subst (Leafed w (pos 0)) (append-nil so_far.given) (so_far.goes_on [] (no_more p));
    opening = opening;
    count = many ∙ so_far.count;
    few = omega (arith, so_far.few, so_far.count);
    stand = so_far.stand;
  }
