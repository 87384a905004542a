-- Laws of instants and of life: what is not after an instant in life is in life, and the life of a cell is one, at instants and at minutes.
use Rattle.std.specs.Prelude.{◌↔◌, ℤ, pos, ◌-ℤ◌, ◌*ℤ◌, ◌≤ℤ◌}
use Rattle.std.proofs.Common.{mul-le-mul_right, arith}
use Rattle.std.specs.Int.Signed.{le_z_yes, clash_ℤ}
use Rattle.whole.specs.Laws.Difference.{nat, all4, difs}
use Rattle.whole.specs.Laws.Order.{of_gap, positive, cancel, is_after, *ℤ_one, lt_z_tells}
use Rattle.whole.specs.Laws.Tells.{decided}
use Rattle.track.specs.Life.{LivesAt}
use Rattle.track.specs.Meets.{Instant, at_minute, NotAfter, InLife, CellMeets}
use Rattle.track.specs.declared.cell.Cell.{Cell}
use Rattle.track.specs.declared.queries.Query.{Query}

-- ---- the order of fractions
in_order_q : (l u p q d : ℤ) → pos 0 ≤ℤ d → (e : ℤ) → pos 0 ≤ℤ e → (l *ℤ q) ≤ℤ (p *ℤ d) → (p *ℤ e) ≤ℤ (u *ℤ q) → pos 0 ≤ℤ (q *ℤ (u *ℤ d -ℤ l *ℤ e))
in_order_q = all4 _ λ _ _ _ _ _ _ _ _. nat _ λ d. nat _ λ e. simp difs (λ k m. omega (arith, mul-le-mul_right e k, mul-le-mul_right d m))

-- an instant between l/d and u/e shows that they are in order
pub in_order : (l d u e : ℤ) (t : Instant) → pos 1 ≤ℤ d → pos 1 ≤ℤ e → (l *ℤ t.q) ≤ℤ (t.p *ℤ d) → (t.p *ℤ e) ≤ℤ (u *ℤ t.q) → (l *ℤ e) ≤ℤ (u *ℤ d)
in_order l d u e t g h k m = of_gap _ _ (cancel t.q _ t.q_positive (in_order_q l u t.p t.q d (positive g) e (positive h) k m))

-- ---- life
-- it ends, and has no beginning
pub earlier_lives : {expiry : ℤ} (s t : Instant) → NotAfter s t → InLife expiry t → InLife expiry s
earlier_lives {expiry} s t h life = record { before = is_after λ late. clash_ℤ life.before (over late) }
  where
    -- were the earlier one not before the expiry, the later one would not be either
    over : (expiry *ℤ s.q) ≤ℤ s.p → (expiry *ℤ t.q) ≤ℤ t.p
    over late =
        let from : (expiry *ℤ s.q) ≤ℤ (s.p *ℤ pos 1) = rw *ℤ_one late in
        let later = in_order expiry (pos 1) t.p t.q s (le_z_yes tt) t.q_positive from h in
        rw *ℤ_one at later

-- in life at a whole minute is what a cell is that lives at it
pub life_is_one : (minute : ℤ) (c : Cell) → InLife c.expiry.at (at_minute minute) ↔ LivesAt minute c
life_is_one minute c = (λ life. rw *ℤ_one at life.before, λ lives. record { before = rw *ℤ_one lives })

-- what meets a query lives at its start
pub lives_at_start : (c : Cell) (q : Query) → CellMeets c q → LivesAt q.start.at c
lives_at_start c q m = (life_is_one q.start.at c).0 (earlier_lives (at_minute q.start.at) m.at (rw *ℤ_one m.in_query.from) m.in_life)

pub lives_decided : (minute : ℤ) (c : Cell) → Dec (LivesAt minute c)
lives_decided minute c = decided lt_z_tells
