-- Laws of what is told of bytes: one for each way through the code, and that 0 is never told.
use Rattle.std.specs.Prelude.{◌≡◌, refl, List, [], ◌∷◌, ℕ, ℤ, pos, nat_abs, Result, Ok, Err}
use Rattle.std.proofs.Common.{sym, ap, ◌∙◌, inl, inr}
use Rattle.track.specs.Numbers.{most_cells}
use Rattle.track.specs.Refusals.{number, ◌when◌, First, Gives, number_of}
use Rattle.track.specs.Laws.Refusals.{first_then, not_zero, refused_not_zero}
use Rattle.track.specs.declared.refusal.Refusal.{Refusal}
use Rattle.sheet.specs.WellFormed.{SheetSound, sheet_reasons, Judges}
use Rattle.viewer.specs.SheetAnswer.{sheet_answers}

module _ {bytes : List ℕ} {r : Result (Unit {0}) Refusal} (judges : Judges most_cells bytes r) where
  told : (n : ℕ) → First (number_of r when (number_of r ≡ 0 → ⊥) ∷ 1 when SheetSound most_cells bytes ∷ []) n → First (sheet_answers bytes) n
  told n = first_then (sheet_reasons most_cells bytes) (1 when SheetSound most_cells bytes ∷ []) (number_of r) n (not_zero 10, (not_zero 11, tt)) judges.refusal

  pub tells_refusal : {why : Refusal} {z : ℤ} → r ≡ Err why → z ≡ pos (number why) → Gives (sheet_answers bytes) z
  tells_refusal {why} e is =
      let same = ap number_of e in
      record { number = number why; is = is; first = told (number why) (inl (λ f. refused_not_zero why (sym same ∙ f), sym same)) }

  pub tells_well_formed : r ≡ (Ok tt) → Gives (sheet_answers bytes) (pos 1)
  tells_well_formed e =
      let none = ap number_of e in
      record { number = 1; is = refl; first = told 1 (inr (λ f. f none, inl (judges.sound none, refl))) }

-- bytes that nothing speaks against are well formed, so 0 is never told
pub never_zero : (bytes : List ℕ) (z : ℤ) → Gives (sheet_answers bytes) z → z ≡ pos 0 → ⊥
never_zero bytes z g e = none g.number (ap nat_abs (sym g.is ∙ e)) g.first
  where
    none : (n : ℕ) → n ≡ 0 → First (sheet_answers bytes) n → ⊥
    none n z (inl h) = not_zero 10 (sym h.1 ∙ z)
    none n z (inr (h, inl r)) = not_zero 11 (sym r.1 ∙ z)
    none n z (inr (h, inr (r, inl s))) = not_zero 0 (sym s.1 ∙ z)
    none n z (inr (h, inr (r, inr s))) = h (λ header. r (λ records. s.0 (record { header = header; records = records })))
