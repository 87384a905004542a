use mathlib.Core.Path.{refl}
use mathlib.Core.Logic.{◌⊎◌, inl, inr}
use mathlib.Core.Bool.{Bool, ◌||◌}
use lib.Dec.{T}
use lib.Signed.{clash_ℤ}
use Rattle.whole.specs.Laws.Within.{back, word_back}
use Rattle.whole.specs.Laws.Order.{lt_z_true, lt_z_false}
use Rattle.whole.specs.Tells.{Tells}
use Rattle.whole.specs.Laws.Tells.{passed, failed, tells_either}
use Rattle.track.specs.Query.{Crossed}
use Rattle.track.specs.declared.queries.Query.{Query}
use Rattle.track.proofs.queries.judged.Goals as goal

-- what the tests of the edges told
against : (backward : Bool) {x y : Bool} (q : Query) → Tells x (Crossed q.x) → Tells y (Crossed q.y) → Tells (backward || (x || y)) (T backward ⊎ (Crossed q.x ⊎ Crossed q.y))
against backward q on_x on_y = tells_either {a = backward} (record { sure = λ t. t; seen = λ t. t }) (tells_either on_x on_y)

pub returns-then-not-query_in_range : goal.returns-then-not-query_in_range
returns-then-not-query_in_range c = record { refusal = inl (failed c.query_in_range.ensures c.if-not-query_in_range.true, refl); query = tt }

pub returns-then-q-clock : goal.returns-then-q-clock
returns-then-q-clock c = record {
  refusal =
      inr (
        λ f. f (passed c.query_in_range.ensures c.if-not-query_in_range.false),
        inl (lt_z_true (simp (word_back c.args.q.start.at c.well_formed.1.1.0.1.1.0.1.1.0.1, back c.ranges.clock) at c.if-q-clock.true), refl),
      );
  query = tt;
}

pub returns-then-backward-crossed : goal.returns-then-backward-crossed
returns-then-backward-crossed c = record {
  refusal =
      inr (
        λ f. f (passed c.query_in_range.ensures c.if-not-query_in_range.false),
        inr (
          λ e. clash_ℤ e (lt_z_false (simp (word_back c.args.q.start.at c.well_formed.1.1.0.1.1.0.1.1.0.1, back c.ranges.clock) at c.if-q-clock.false)),
          inl (passed (against c.args.backward c.args.q c.crossed.ensures c.crossed-2.ensures) c.if-backward-crossed.true, refl),
        ),
      );
  query = tt;
}

pub returns : goal.returns
returns c = record {
  refusal =
      inr (
        λ f. f (passed c.query_in_range.ensures c.if-not-query_in_range.false),
        inr (
          λ e. clash_ℤ e (lt_z_false (simp (word_back c.args.q.start.at c.well_formed.1.1.0.1.1.0.1.1.0.1, back c.ranges.clock) at c.if-q-clock.false)),
          inr (failed (against c.args.backward c.args.q c.crossed.ensures c.crossed-2.ensures) c.if-backward-crossed.false, refl),
        ),
      );
  query = refl;
}
