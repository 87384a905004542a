use mathlib.Core.Path.{◌≡◌, refl, ap, ◌∙◌}
use mathlib.Core.Logic.{inl, inr}
use Prim.Native.Nat.{◌≤◌}
use native.Mathlib.Omega.{arith}
use lib.ListN.{length}
use Rattle.whole.specs.Laws.Within.{back}
use Rattle.whole.specs.Tells.{Tells}
use Rattle.whole.specs.Laws.Tells.{passed, failed}
use Rattle.words.specs.Words.{nat_of}
use Rattle.track.specs.Laws.Refusals.{not_zero}
use Rattle.table.specs.Header.{IsCapacity, words_for}
use Rattle.table.specs.Laws.Header.{capacity_low}
use Rattle.table.proofs.fresh.fresh.Goals as goal
use Rattle.table.proofs.fresh.fresh.Goals.{After-is_capacity, Else-not-is_capacity, After-place, After-words_for, Else-t-words_for}

told : (c : After-is_capacity) → Tells c.is_capacity.result (IsCapacity c.args.cells)
told c = simp (back c.ranges.cells) at c.is_capacity.ensures

capacity_in : (c : Else-not-is_capacity) → IsCapacity c.args.cells
capacity_in c = passed (told c.before) c.if-not-is_capacity.false

count_is : (c : After-place) → c.place.result ≡ nat_of c.args.cells
count_is c = simp (back c.ranges.cells) at c.place.ensures.0

need_is : (c : After-words_for) → c.words_for.result ≡ words_for (nat_of c.args.cells)
need_is c = c.words_for.ensures ∙ ap words_for (count_is c.before)

long_enough : (c : Else-t-words_for) → words_for (nat_of c.args.cells) ≤ length c.args.t.now
long_enough c = omega (arith, need_is c.before, c.if-t-words_for.false)

pub returns-then-not-is_capacity : goal.returns-then-not-is_capacity
returns-then-not-is_capacity c = record { refusal = inl (failed (told (goal.at.returns-then-not-is_capacity c).After-is_capacity) c.if-not-is_capacity.true, refl); accepted = not_zero 1; refused = λ n. refl }

pub words_for-requires : goal.words_for-requires
words_for-requires c = omega (arith, count_is (goal.at.words_for-requires c).After-place, capacity_low (capacity_in (goal.at.words_for-requires c).Else-not-is_capacity))

pub returns-then-t-words_for : goal.returns-then-t-words_for
returns-then-t-words_for c = record {
  refusal = inr (λ f. f (capacity_in (goal.at.returns-then-t-words_for c).Else-not-is_capacity), inl (omega (arith, need_is (goal.at.returns-then-t-words_for c).After-words_for, c.if-t-words_for.true), refl));
  accepted = not_zero 2;
  refused = λ n. refl;
}

pub write-requires : goal.write-requires
write-requires c =
    simp (back c.ranges.cells) (capacity_in (goal.at.write-requires c).Else-not-is_capacity, long_enough (goal.at.write-requires c).Else-t-words_for)

pub returns : goal.returns
returns c =
    let e = (goal.at.returns c).Else-t-words_for in
    let enough = long_enough e in
    record {
      refusal = inr (λ f. f (capacity_in e.before.before.before), inr (λ short. omega arith, refl));
      accepted = λ n. simp (back c.ranges.cells) at c.write.ensures;
      refused = λ n. absurd (n refl);
    }
