use Rattle.std.proofs.Common.{◌≡◌, ◌∙◌, List, [], ◌∷◌, ℕ, ◌+◌, ◌-◌, Bool, true, false, cond, length, take, drop, rules, tests, arith, length-drop, drop-drop, take_all, one-add}
use Rattle.std.specs.Char.{is_ascii_digit}
use Rattle.std.specs.List.{prefix_len}
use Rattle.std.proofs.lemmas.Iterator.{YieldsList-from_slice}
use Rattle.std.proofs.lemmas.Iterator.Consumers.{count_from_yields_List}
use Rattle.std.proofs.lemmas.Iterator.Search.{YieldsList-from_take_while}
use Rattle.std.proofs.lemmas.List.Folds.{length-prefix_len}
use Rattle.std.proofs.lemmas.List.Sums.{prefix_len-le-length}
use Rattle.whole.specs.Tells.{Tells}
use Rattle.words.specs.Parts.{part}
use Rattle.decimal.specs.Inner.DigitRuns.{IsDigit, AllDigits, none, and, Stops}
use Rattle.decimal.specs.Laws.DigitRuns.{digit_tells}
use Rattle.decimal.proofs.reading.count_digits.Goals as goal
use Rattle.decimal.proofs.reading.count_digits.Goals.{After-count}

-- those that are counted are digits, and none stands behind them
counted : (l : List ℕ) → AllDigits (take (prefix_len is_ascii_digit l) l) × Stops (drop (prefix_len is_ascii_digit l) l)
counted [] = (none, tt)
counted (b ∷ l) = by (is_ascii_digit b) digit_tells (counted l)
  where
    by : (f : Bool) → Tells f (IsDigit b) → AllDigits (take (prefix_len is_ascii_digit l) l) × Stops (drop (prefix_len is_ascii_digit l) l)
        → let n = cond f (1 + prefix_len is_ascii_digit l) 0 in AllDigits (take n (b ∷ l)) × Stops (drop n (b ∷ l))
    by true t rest = rw one-add (and (t.sure tt) rest.0, rest.1)
    by false t rest = (none, t.seen)

many : (c : After-count) → c.count.result ≡ prefix_len is_ascii_digit (drop c.args.at c.args.line.now)
many c =
    let rest = drop c.args.at c.args.line.now in
    let whole = take_all (length c.args.line.now - c.args.at) rest (omega (arith, length-drop c.args.at c.args.line.now)) in
    count_from_yields_List c.take_while.result _ c.count.ensures.ran
    (YieldsList-from_take_while _ is_ascii_digit (YieldsList-from_slice rest cc) c.take_while.ensures.closure c.take_while.ensures.done (λ x b q k. search (rules, tests)))
    ∙ length-prefix_len is_ascii_digit rest

pub returns : goal.returns
unfolding part
returns c =
    let rest = drop c.args.at c.args.line.now in
    let run = counted rest in
    rw (many (goal.at.returns c).After-count) (record {
      inside = omega (arith, prefix_len-le-length is_ascii_digit rest, length-drop c.args.at c.args.line.now);
      digits = run.0;
      stops = rw (← drop-drop) run.1;
    })
