-- What may be read is what is not refused, one law for each way through the reading, the live cells of what was read, and that the answer is fixed.
use Rattle.std.specs.Prelude.{◌≡◌, refl, List, ℕ, ℤ, Result, Ok, Err}
use Rattle.std.proofs.Common.{sym, ap, ◌∙◌, subst, inr, arith}
use Rattle.whole.specs.Laws.Order.{≤ℤ_stable}
use Rattle.track.specs.Refusals.{First, number_of}
use Rattle.track.specs.Laws.Refusals.{same_answer, first_fixed, none_holds, not_zero, refused_not_zero, number_fixes}
use Rattle.sheet.specs.Laws.SheetStable.{header_stable, records_stable}
use Rattle.sheet.specs.Sheet.{cells_of}
use Rattle.sheet.specs.WellFormed.{RecordsSound}
use Rattle.table.specs.Fresh.{fresh_reasons, IsFresh, MakesFresh}
use Rattle.track.specs.declared.refusal.Refusal.{Refusal}
use Rattle.leafing.specs.Leafed.{LiveCells}
use Rattle.sheet_read.specs.Reads.{read_reasons, IsRead, ReadsSheet}
use Rattle.sheet_read.specs.Inner.ReadingSteps.{CanRead}

-- what may be read is not refused
pub can_accept : {cells : ℤ} {w : List ℤ} {bytes : List ℕ} → CanRead cells w bytes → First (read_reasons cells w bytes) 0
can_accept c =
    inr (λ f. f c.capacity_in, inr (λ lt. omega (arith, c.long_enough), inr (λ f. f c.well_formed.header, inr (λ lt. omega (arith, c.few), inr (λ f. f c.well_formed.records, refl)))))

pub read_done : {cells : ℤ} {w : List ℤ} {bytes : List ℕ} {r : Result (Unit {0}) Refusal} {v : List ℤ} → CanRead cells w bytes → ReadsSheet cells w bytes r v → number_of r ≡ 0
read_done {cells} {w} {bytes} {r} can p = first_fixed (read_reasons cells w bytes) (number_of r) 0 p.refusal (can_accept can)

-- and what is not refused may be read
pub accepted_can : {cells : ℤ} {w : List ℤ} {bytes : List ℕ} (n : ℕ) → First (read_reasons cells w bytes) n → n ≡ 0 → CanRead cells w bytes
accepted_can {cells} {w} {bytes} n tried e =
    let none = none_holds (read_reasons cells w bytes) n (not_zero 1, (not_zero 2, (not_zero 10, (not_zero 8, (not_zero 11, tt))))) tried e in
    record {
      capacity_in = record { from = ≤ℤ_stable (λ n. none.0 (λ c. n c.from)); to = ≤ℤ_stable (λ n. none.0 (λ c. n c.to)) };
      long_enough = omega (arith, none.1.0);
      well_formed = record { header = header_stable none.1.1.0; records = records_stable none.1.1.1.1.0 };
      few = omega (arith, none.1.1.1.0);
    }

-- ---- the ways through the reading
module _ {cells : ℤ} {w : List ℤ} {bytes : List ℕ} {r : Result (Unit {0}) Refusal} (judged : First (read_reasons cells w bytes) (number_of r)) where
  pub reads_refused : {why : Refusal} → r ≡ Err why → ReadsSheet cells w bytes r w
  reads_refused {why} e = record { refusal = judged; accepted = λ z. absurd (refused_not_zero why (sym (ap number_of e) ∙ z)); refused = λ n. refl }

  pub reads_accepted : {v : List ℤ} → r ≡ (Ok tt) → IsRead cells w bytes v → ReadsSheet cells w bytes (Ok tt) v
  reads_accepted e read =
      record { refusal = subst (λ (s : Result (Unit {0}) Refusal). First (read_reasons cells w bytes) (number_of s)) e judged; accepted = λ z. read; refused = λ n. absurd (n refl) }

-- a fresh table is made of words into which a sheet may be read
pub fresh_unrefused : {cells : ℤ} {w : List ℤ} {bytes : List ℕ} {n : ℕ} {v : List ℤ} → CanRead cells w bytes → MakesFresh cells w n v → n ≡ 0
fresh_unrefused {cells} {w} {n} c m = first_fixed (fresh_reasons cells w) n 0 m.refusal (inr (λ f. f c.capacity_in, inr (λ lt. omega (arith, c.long_enough), refl)))

pub can_make_fresh : {cells : ℤ} {w : List ℤ} {bytes : List ℕ} {n : ℕ} {v : List ℤ} → CanRead cells w bytes → MakesFresh cells w n v → IsFresh cells w v
can_make_fresh c m = m.accepted (fresh_unrefused c m)

-- ---- the live cells of what was read are the sheet's
pub read_live : {cells : ℤ} {w : List ℤ} {bytes : List ℕ} {v : List ℤ} → RecordsSound bytes → IsRead cells w bytes v → LiveCells v (cells_of bytes)
read_live {v} sound p = record {
  rising = sound.rising;
  only = λ c m. record { is_held = (p.holds c).1 m; in_life = rw p.clock_is (sound.in_life c m) };
  all = λ c live. (p.holds c).0 live.is_held;
}

-- ---- the answer is fixed
pub outcome_fixed : (r s : Result (Unit {0}) Refusal) → number_of r ≡ number_of s → r ≡ s
outcome_fixed r s e = same_answer r s e (λ _ _ _ _. refl)

pub read_fixed : {cells : ℤ} {w : List ℤ} {bytes : List ℕ} {r s : Result (Unit {0}) Refusal} {u v : List ℤ} → ReadsSheet cells w bytes r u → ReadsSheet cells w bytes s v → r ≡ s
read_fixed {cells} {w} {bytes} {r} {s} p q = outcome_fixed r s (first_fixed (read_reasons cells w bytes) (number_of r) (number_of s) p.refusal q.refusal)
