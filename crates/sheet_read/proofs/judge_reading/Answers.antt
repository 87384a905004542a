use mathlib.Core.Path.{◌≡◌, refl, ap, ◌∙◌}
use mathlib.Core.Logic.{inl, inr}
use Prim.Native.Nat.{◌≤◌}
use native.Mathlib.Omega.{arith}
use lib.ListN.{length}
use Rattle.whole.specs.Laws.Within.{back}
use Rattle.whole.specs.Tells.{Tells}
use Rattle.whole.specs.Laws.Tells.{passed, failed}
use Rattle.words.specs.Words.{nat_of}
use Rattle.track.specs.Numbers.{most_cells}
use Rattle.table.specs.Header.{IsCapacity, words_for}
use Rattle.table.specs.Laws.Header.{capacity_low}
use Rattle.sheet.specs.Sheet.{record_count}
use Rattle.sheet.specs.WellFormed.{HeaderSound}
use Rattle.sheet_read.specs.Laws.ReadingSteps.{can_accept}
use Rattle.sheet_read.proofs.judge_reading.Goals as goal
use Rattle.sheet_read.proofs.judge_reading.Goals.{After-is_capacity, Else-not-is_capacity, After-place-most, After-words_for, Else-t-words_for, Else-not-sheet_header_sound, Else-most-count_of}

-- ---- what each test told
told : (c : After-is_capacity) → Tells c.is_capacity.result (IsCapacity c.args.cells)
told c = simp (back c.ranges.cells) at c.is_capacity.ensures

capacity_in : (c : Else-not-is_capacity) → IsCapacity c.args.cells
capacity_in c = passed (simp (back c.ranges.cells) at c.is_capacity.ensures) c.if-not-is_capacity.false

count_is : (c : After-place-most) → c.place-most.result ≡ nat_of c.args.cells
count_is c = simp (back c.ranges.cells) at c.place-most.ensures.0

need_is : (c : After-words_for) → c.words_for.result ≡ words_for (nat_of c.args.cells)
need_is c = c.words_for.ensures ∙ ap words_for (simp (back c.ranges.cells) at c.place-most.ensures.0)

long_enough : (c : Else-t-words_for) → let a = c.args in words_for (nat_of a.cells) ≤ length a.t.now
long_enough c =
    let need_is : c.words_for.result ≡ words_for (nat_of c.args.cells) = c.words_for.ensures ∙ ap words_for (simp (back c.ranges.cells) at c.place-most.ensures.0) in
    omega (arith, c.if-t-words_for.false)

header : (c : Else-not-sheet_header_sound) → HeaderSound most_cells c.args.bytes.now
header c = passed c.sheet_header_sound.ensures c.if-not-sheet_header_sound.false

few : (c : Else-most-count_of) → let a = c.args in record_count a.bytes.now ≤ nat_of a.cells
few c =
    let count_is : c.place-most.result ≡ nat_of c.args.cells = simp (back c.ranges.cells) at c.place-most.ensures.0 in
    omega (arith, c.count_of.ensures.0, c.if-most-count_of.false)

pub returns-then-not-is_capacity : goal.returns-then-not-is_capacity
returns-then-not-is_capacity c = inl (failed (told (goal.at.returns-then-not-is_capacity c).After-is_capacity) c.if-not-is_capacity.true, refl)

pub words_for-requires : goal.words_for-requires
words_for-requires c = omega (arith, count_is (goal.at.words_for-requires c).After-place-most, capacity_low (capacity_in (goal.at.words_for-requires c).Else-not-is_capacity))

pub returns-then-t-words_for : goal.returns-then-t-words_for
returns-then-t-words_for c = inr (λ f. f (capacity_in (goal.at.returns-then-t-words_for c).Else-not-is_capacity), inl (omega (arith, need_is (goal.at.returns-then-t-words_for c).After-words_for, c.if-t-words_for.true), refl))

pub returns-then-not-sheet_header_sound : goal.returns-then-not-sheet_header_sound
returns-then-not-sheet_header_sound c =
    let enough = long_enough (goal.at.returns-then-not-sheet_header_sound c).Else-t-words_for in
    inr (λ f. f (capacity_in (goal.at.returns-then-not-sheet_header_sound c).Else-not-is_capacity), inr (λ short. omega arith, inl (failed c.sheet_header_sound.ensures c.if-not-sheet_header_sound.true, refl)))

pub returns-then-most-count_of : goal.returns-then-most-count_of
returns-then-most-count_of c =
    let enough = long_enough (goal.at.returns-then-most-count_of c).Else-t-words_for in
    inr (
      λ f. f (capacity_in (goal.at.returns-then-most-count_of c).Else-not-is_capacity),
      inr (
        λ short. omega arith,
        inr (
          λ f. f (header (goal.at.returns-then-most-count_of c).Else-not-sheet_header_sound),
          inl (omega (arith, count_is (goal.at.returns-then-most-count_of c).After-place-most, c.count_of.ensures.0, c.if-most-count_of.true), refl),
        ),
      ),
    )

pub returns-then-not-records_sound : goal.returns-then-not-records_sound
returns-then-not-records_sound c =
    let enough = long_enough (goal.at.returns-then-not-records_sound c).Else-t-words_for in
    let low = few (goal.at.returns-then-not-records_sound c).Else-most-count_of in
    inr (
      λ f. f (capacity_in (goal.at.returns-then-not-records_sound c).Else-not-is_capacity),
      inr (
        λ short. omega arith,
        inr (
          λ f. f (header (goal.at.returns-then-not-records_sound c).Else-not-sheet_header_sound),
          inr (
            λ many. omega arith,
            inl (failed c.records_sound.ensures c.if-not-records_sound.true, refl),
          ),
        ),
      ),
    )

pub returns : goal.returns
returns c =
    let at = goal.at.returns c in
    can_accept
    (record {
      capacity_in = capacity_in at.Else-not-is_capacity;
      long_enough = long_enough at.Else-t-words_for;
      well_formed = record { header = header at.Else-not-sheet_header_sound; records = passed c.records_sound.ensures c.if-not-records_sound.false };
      few = few at.Else-most-count_of;
    })
