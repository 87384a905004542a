use Rattle.std.proofs.Common.{◌≡◌, ℕ, ◌<◌, length, get_or, Bool, true, false, subst, zero-add, ◌∙◌, arith, rules, tests}
use Rattle.std.specs.Prelude.{◌≤ℤ◌}
use Rattle.std.specs.Bool.{MatchBool}
use Rattle.std.specs.List.{AllWithin, HoldsAt, range_with_len}
use Rattle.std.proofs.iter.Serving.{serving}
use Rattle.std.proofs.lemmas.Iterator.{cases_from_all, YieldsList-from_range}
use Rattle.std.proofs.lemmas.List.FromFn.{length-range_with_len, get_or-range_with_len}
use Rattle.whole.specs.Laws.Within.{word_back, back}
use Rattle.whole.specs.Tells.{Tells}
use Rattle.whole.specs.Laws.Tells.{tells_true, tells_false}
use Rattle.node.specs.Entry.{entry_count, stamp_of}
use Rattle.node.specs.Laws.Entry.{count_fits}
use Rattle.words.specs.Layout.{entry_at}
use Rattle.table.specs.Laws.ScanParts.{none_tells}
use Rattle.table.proofs.scan.none_after.Goals as goal

at_place : (n k : ℕ) → k < n → get_or (range_with_len 0 n) k 0 ≡ k
at_place n k lt = get_or-range_with_len 0 n k 0 lt ∙ zero-add k

-- what `(0..n).all(..)` tells, where the closure tells P of one number
tells_all : {r : Bool} {P : ℕ → Type 0} (n : ℕ)
    → MatchBool r (AllWithin P (range_with_len 0 n) 0 (length (range_with_len 0 n))) ((k : ℕ) × (k < length (range_with_len 0 n)) × HoldsAt (λ j. P j → ⊥) (range_with_len 0 n) k)
    → Tells r ((k : ℕ) → k < n → P k)
tells_all {r = true} {P} n m = tells_true (λ k lt. subst P (at_place n k lt) (m k 0 (omega arith) (rw length-range_with_len lt)))
tells_all {r = false} n m = let lt = rw length-range_with_len at m.1 in tells_false (λ f. m.2 0 (rw (at_place n m.0 lt) (f m.0 lt)))

pub all-requires-clause-callable : goal.all-requires-clause-callable
all-requires-clause-callable c = let low = count_fits c.args.n.now in grind serving

pub returns : goal.returns
returns c =
    let n = c.args.n.now in
    let last = c.args.last in
    let last_is = back c.ranges.last in
    let each =
    cases_from_all _ _ _ (λ k. stamp_of (entry_at n k) ≤ℤ last) (λ k. stamp_of (entry_at n k) ≤ℤ last → ⊥) c.all.ensures.ran (YieldsList-from_range 0 (entry_count n) (entry_count n) (cc) (omega arith))
    (λ k q r. (search (rules, tests), record { le = search (rules, tests, word_back) }))
    (λ k q r h. search (rules, tests, word_back, h.le)) in
    none_tells n last (tells_all (entry_count n) each)
