-- Laws of leafing through a table: what is given and left is fixed, and of a sound table it is the live cells. And the two ways through the code.
use Rattle.std.specs.Prelude.{◌≡◌, List, [], ◌++◌, ◌*◌, ◌≤◌, ◌<◌, ℤ, take, Err}
use Rattle.std.proofs.Math.Path.{refl}
use Rattle.std.proofs.Math.Decide.{ℕ_discrete}
use Rattle.std.proofs.Common.{sym, ap, ◌∙◌, subst, inl, inr, arith}
use Rattle.std.proofs.Math.ListN.{length, drop}
use Rattle.words.specs.Parts.{part, put}
use Rattle.words.specs.Laws.Parts.{part-put, length_part}
use Rattle.words.specs.Laws.InLine.{length_pieces}
use Rattle.track.specs.Refusals.{First, number_of}
use Rattle.track.specs.Laws.Refusals.{first_fixed, same_answer, not_zero}
use Rattle.track.specs.declared.cell.Cell.{Cell}
use Rattle.track.specs.declared.refusal.Refusal.TheVariants.{ShortList}
use Rattle.table.specs.Header.{greatest_capacity}
use Rattle.table.specs.Sound.{Sound}
use Rattle.leafing.specs.NextLive.{opening_reasons}
use Rattle.leafing.specs.Laws.NextLive.{steps_unsound}
use Rattle.leafing.specs.Leafed.{LiveCells}
use Rattle.leafing.specs.Laws.Leafed.{leafed_fixed, leafed_none, leafed_live}
use Rattle.leafing.specs.Through.{record_numbers, numbers_of, through_reasons, LeafsThrough}
use Rattle.leafing.specs.Inner.LeafingList.{ListsAll}
use Rattle.leafing.specs.Laws.LeafingList.{cell_pieces}
use Rattle.leafing.specs.declared.through.Listed.{Listed}

-- ---- one answer, and one list
pub through_fixed : {w list : List ℤ} {r s : Listed} {list₁ list₂ : List ℤ} → LeafsThrough w list r list₁ → LeafsThrough w list s list₂ → (r ≡ s) × (list₁ ≡ list₂)
through_fixed {w} {list} {r} {s} {list₁} {list₂} f g = (λ i. record { outcome = same_outcome i; cells = same_count i }, by (ℕ_discrete (number_of r.outcome) 0))
  where
    same : f.cells ≡ g.cells
    same = leafed_fixed f.leafed g.leafed

    same_number : number_of r.outcome ≡ number_of s.outcome
    same_number =
        first_fixed (through_reasons w g.cells list) (number_of r.outcome) (number_of s.outcome)
        (subst (λ (cells : List Cell). First (through_reasons w cells list) (number_of r.outcome)) same f.refusal) g.refusal

    same_outcome : r.outcome ≡ s.outcome
    same_outcome = same_answer r.outcome s.outcome same_number (λ _ _ _ _. refl)

    same_count : r.cells ≡ s.cells
    same_count = f.count ∙ ap length same ∙ sym g.count

    listed : List Cell → List ℤ
    listed cells = numbers_of cells ++ drop (record_numbers * length cells) list

    by : Dec (number_of r.outcome ≡ 0) → list₁ ≡ list₂
    by (yes e) = f.listed e ∙ ap listed same ∙ sym (g.listed (sym same_number ∙ e))
    by (no n) = f.unchanged n ∙ sym (g.unchanged (λ e. n (same_number ∙ e)))

-- ---- of a sound table: all live cells, by rising identifier, and no other
pub through_live : {w list : List ℤ} {r : Listed} {list' : List ℤ} → Sound w → (t : LeafsThrough w list r list') → LiveCells w t.cells
through_live sound t = leafed_live sound t.leafed

-- ---- the ways through the code
no_numbers : (list : List ℤ) → numbers_of [] ++ drop (record_numbers * 0) list ≡ list
unfolding numbers_of
no_numbers list = refl

module _ {w all : List ℤ} {found : Listed} {all' : List ℤ} (g : ListsAll w all found all') where
  -- words that are no sound table give no cell
  none_unsound : (Sound w → ⊥) → g.cells ≡ []
  none_unsound n = leafed_none g.leafed (steps_unsound n)

  pub through_short : {list : List ℤ} → length list < record_numbers * found.cells → LeafsThrough w list (record { outcome = Err ShortList; cells = found.cells }) list
  through_short {list} short = record {
    cells = g.cells;
    leafed = g.leafed;
    refusal = inr (λ n. some (ap length (none_unsound n)), inl (omega (arith, g.count), refl));
    count = g.count;
    listed = not_zero 9;
    unchanged = λ z. refl;
  }
    where
      some : length g.cells ≡ 0 → ⊥
      some z = omega (arith, g.count)

  module _ (room : record_numbers * greatest_capacity ≤ length all) where
    long : length (take (record_numbers * found.cells) all') ≡ record_numbers * found.cells
    unfolding part
    long = length_part all' 0 (record_numbers * found.cells) (omega (arith, g.count, g.few, g.stand.long))

    pub first_long : record_numbers * found.cells ≡ length (take (record_numbers * found.cells) all')
    first_long = sym long

    first_are : take (record_numbers * found.cells) all' ≡ numbers_of g.cells
    unfolding part
    first_are = rw (g.count, g.stand.is) (part-put all 0 (record_numbers * length g.cells) (numbers_of g.cells) (omega (arith, g.few)) (length_pieces cell_pieces g.cells))

    pub through_listed : {list : List ℤ} → record_numbers * found.cells ≤ length list → {list' : List ℤ}
        → list' ≡ put list 0 (length (take (record_numbers * found.cells) all')) (take (record_numbers * found.cells) all') → LeafsThrough w list found list'
    unfolding put
    through_listed {list} fits {list'} e = record {
      cells = g.cells;
      leafed = g.leafed;
      refusal = first g.opening;
      count = g.count;
      listed = λ z. stands;
      unchanged = λ z. unlisted z g.opening;
    }
      where
        stands : list' ≡ numbers_of g.cells ++ drop (record_numbers * length g.cells) list
        stands = e ∙ rw (long, first_are, g.count) refl

        first : First (opening_reasons w) (number_of found.outcome) → First (through_reasons w g.cells list) (number_of found.outcome)
        first (inl h) = inl h
        first (inr h) = inr (h.0, inr (λ more. omega (arith, g.count), h.1))

        unlisted : (number_of found.outcome ≡ 0 → ⊥) → First (opening_reasons w) (number_of found.outcome) → list' ≡ list
        unlisted z (inl h) = stands ∙ ap (λ (cells : List Cell). numbers_of cells ++ drop (record_numbers * length cells) list) (none_unsound h.0) ∙ no_numbers list
        unlisted z (inr h) = absurd (z h.1)
