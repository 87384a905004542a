-- Laws of what is told of a report and a query: one for each way through the code, and how the reasons of the two join.
use Rattle.std.specs.Prelude.{◌≡◌, refl, [], ◌∷◌, ℕ, zero, suc, ℤ, pos, Result, Ok, Err}
use Rattle.std.proofs.Common.{sym, ap₂, ◌∙◌, inl, inr}
use Rattle.std.specs.Int.Signed.{clash_ℤ}
use Rattle.track.specs.Refusals.{number, number_of, ◌when◌, First, Gives, first_given}
use Rattle.track.specs.Laws.Refusals.{first_then, none_given, not_zero, refused_not_zero}
use Rattle.track.specs.Report.{report_reasons, kept_cell, Reports}
use Rattle.track.specs.Query.{query_reasons, Asks}
use Rattle.track.specs.Meets.{CellMeets}
use Rattle.track.specs.Answer.{meeting_reasons, meeting_answers, answers_to, refusal_of}
use Rattle.track.specs.declared.cell.Cell.{Cell}
use Rattle.track.specs.declared.report.Report.{Report}
use Rattle.track.specs.declared.queries.Query.{Query}
use Rattle.track.specs.declared.refusal.Refusal.{Refusal}

-- ---- the ways through the code
tells_refusal : (r : Result Cell Refusal) (a : Result Query Refusal) (n : ℕ) {z : ℤ} → refusal_of r a ≡ n → (n ≡ 0 → ⊥) → z ≡ pos n → Gives (answers_to r a) z
tells_refusal r a n e none is = record { number = n; is = is; first = inl (λ f. none (sym e ∙ f), sym e) }

module _ {r : Result Cell Refusal} {a : Result Query Refusal} where
  pub tells_yes : {c : Cell} {q : Query} → r ≡ Ok c → a ≡ Ok q → CellMeets c q → Gives (answers_to r a) (pos 1)
  tells_yes e f m = rw (e, f) (record { number = 1; is = refl; first = inr (λ n. n refl, inl (m, refl)) })

  pub tells_no : {c : Cell} {q : Query} → r ≡ Ok c → a ≡ Ok q → (CellMeets c q → ⊥) → Gives (answers_to r a) (pos 0)
  tells_no e f m = rw (e, f) (record { number = 0; is = refl; first = inr (λ n. n refl, inr (m, refl)) })

  pub tells_asked : {c : Cell} {why : Refusal} {z : ℤ} → r ≡ Ok c → a ≡ Err why → z ≡ pos (number why) → Gives (answers_to r a) z
  tells_asked {why} e f = tells_refusal r a (number why) (ap₂ refusal_of e f) (refused_not_zero why)

  pub tells_reported : {why : Refusal} {q : Query} {z : ℤ} → r ≡ Err why → a ≡ Ok q → z ≡ pos (number why) → Gives (answers_to r a) z
  tells_reported {why} e f = tells_refusal r a (number why) (ap₂ refusal_of e f ∙ alone (number why)) (refused_not_zero why)
    where
      alone : (n : ℕ) → first_given n 0 ≡ n
      alone zero = refl
      alone (suc n) = refl

  pub tells_first : {why other : Refusal} {z : ℤ} → r ≡ Err why → a ≡ Err other → z ≡ pos (first_given (number why) (number other)) → Gives (answers_to r a) z
  tells_first {why} {other} e f =
      tells_refusal r a (first_given (number why) (number other)) (ap₂ refusal_of e f)
      (λ z. refused_not_zero why (none_given (number why) (number other) z).0)

-- ---- the reasons of the report and of the query joined
in_both : {P Q : Type 0} → ((P → ⊥) → ⊥) → ((Q → ⊥) → ⊥) → (P × Q → ⊥) → ⊥
in_both d i f = d (λ p. i (λ q. f (p, q)))

module _ {report : Report} {Backward : Type 0} {q : Query} where
  -- a report in range is never before the first minute, so 5 is the query's alone
  joined : {m n : ℕ} → First (report_reasons (pos 0) report) m → First (query_reasons report.minute Backward q) n → First (meeting_reasons report Backward q) (first_given m n)
  joined (inl g) (inl h) = inl (λ both. g.0 both.0, ap₂ first_given g.1 h.1)
  joined (inl g) (inr (i, inl h)) = inl (λ both. g.0 both.0, ap₂ first_given g.1 h.1)
  joined (inl g) (inr (i, inr (j, inl h))) = inl (λ both. g.0 both.0, ap₂ first_given g.1 h.1)
  joined (inl g) (inr (i, inr (j, inr h))) = inl (λ both. g.0 both.0, ap₂ first_given g.1 h.1)
  joined (inr (d, inl g)) h = absurd (d (λ inside. clash_ℤ g.0 inside.minute_in.from))
  joined (inr (d, inr (e, inl g))) (inl h) = inl (λ both. h.0 both.1, ap₂ first_given g.1 h.1)
  joined (inr (d, inr (e, inl g))) (inr (i, inl h)) = inr (in_both d i, inl (h.0, ap₂ first_given g.1 h.1))
  joined (inr (d, inr (e, inl g))) (inr (i, inr (j, inl h))) = inr (in_both d i, inr (j, inl (g.0, ap₂ first_given g.1 h.1)))
  joined (inr (d, inr (e, inl g))) (inr (i, inr (j, inr h))) = inr (in_both d i, inr (j, inl (g.0, ap₂ first_given g.1 h.1)))
  joined (inr (d, inr (e, inr g))) (inl h) = inl (λ both. h.0 both.1, ap₂ first_given g.1 h.1)
  joined (inr (d, inr (e, inr g))) (inr (i, inl h)) = inr (in_both d i, inl (h.0, ap₂ first_given g.1 h.1))
  joined (inr (d, inr (e, inr g))) (inr (i, inr (j, inl h))) = inr (in_both d i, inr (j, inr (g.0, inl (h.0, ap₂ first_given g.1 h.1))))
  joined (inr (d, inr (e, inr g))) (inr (i, inr (j, inr h))) = inr (in_both d i, inr (j, inr (g.0, inr (h.0, ap₂ first_given g.1 h.1))))

  -- what the answers were is what the numbers say
  as_handed_over : (r : Result Cell Refusal) (a : Result Query Refusal) {n : ℕ} → Reports (pos 0) report r → Asks report.minute Backward q a → First (answers_to r a) n
      → First (refusal_of r a when (refusal_of r a ≡ 0 → ⊥) ∷ 1 when CellMeets (kept_cell report) q ∷ []) n
  as_handed_over r a g h (inl i) = inl i
  as_handed_over (Ok c) (Ok asked) g h (inr i) = inr (i.0, rw (g.cell, h.query) at i.1)
  as_handed_over (Ok c) (Err why) g h (inr i) = absurd (i.0 (refused_not_zero why))
  as_handed_over (Err why) a g h (inr i) = absurd (i.0 (λ z. refused_not_zero why (none_given (number why) (number_of a) z).0))

  pub answered : {r : Result Cell Refusal} {a : Result Query Refusal} {z : ℤ} → Reports (pos 0) report r → Asks report.minute Backward q a → Gives (answers_to r a) z → Gives (meeting_answers report Backward q) z
  answered {r} {a} g h t = record {
    number = t.number;
    is = t.is;
    first =
        first_then (meeting_reasons report Backward q) (1 when CellMeets (kept_cell report) q ∷ []) (refusal_of r a) t.number
        (not_zero 3, (not_zero 4, (not_zero 5, (not_zero 6, tt))))
        (joined g.refusal h.refusal)
        (as_handed_over r a g h t.first);
  }
