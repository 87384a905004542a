-- Laws of the header's tests, and one for each way through the test of a whole sheet.
use Rattle.std.specs.Prelude.{◌≡◌, refl, Bool, ◌&&◌, List, ℕ, ◌≤◌, length, eqb, leb, ℤ, pos, ◌≤ℤ◌, Result, Ok, Err}
use Rattle.std.proofs.Common.{sym, ap, ◌∙◌, inl, inr, arith, le→leb}
use Rattle.std.specs.Int.Signed.{le_z, le_z_yes}
use Rattle.whole.specs.Laws.Order.{le_z_tells}
use Rattle.whole.specs.Laws.Tells.{tells_as, tells_both, eqb_tells}
use Rattle.whole.specs.Tells.{Tells}
use Rattle.words.specs.Words.{nat_of}
use Rattle.words.specs.Laws.Words.{nat_of-pos, nat_of_tells, pos-nat_of}
use Rattle.track.specs.Laws.Refusals.{same_answer, not_zero, refused_not_zero, number_fixes, first_fixed}
use Rattle.track.specs.declared.refusal.Refusal.TheVariants.{BadHeader, BadRecord}
use Rattle.track.specs.Numbers.{IsMinute}
use Rattle.sheet.specs.Sheet.{header_bytes, total_for, count_word, offset_word, clock_of, total_word, record_count}
use Rattle.sheet.specs.WellFormed.{IsCountTo, HeaderSound, RecordsSound, sheet_reasons, Judges}
use Rattle.track.specs.declared.refusal.Refusal.{Refusal}
use Rattle.track.specs.Refusals.{number_of}

-- ---- a word as a number
count_positive : (n : ℕ) → pos 0 ≤ℤ pos n
count_positive n = le_z_yes (le→leb 0 n (omega arith))

module _ (z : ℤ) {m : ℕ} (is : m ≡ nat_of z) where
  pub number_tells : (n : ℕ) → Tells (le_z (pos 0) z && eqb m n) (z ≡ pos n)
  number_tells n =
      tells_as (tells_both le_z_tells eqb_tells)
      (λ h. sym (pos-nat_of z h.0) ∙ ap pos (sym is ∙ h.1))
      (λ e. (rw e (count_positive n), is ∙ ap nat_of e ∙ nat_of-pos n))

  pub count_to_tells : (limit : ℕ) → Tells (le_z (pos 0) z && leb m limit) (IsCountTo limit z)
  count_to_tells limit = tells_as (tells_both le_z_tells (rw is (nat_of_tells z limit))) (λ p. record { from = p.0; to = p.1 }) (λ c. (c.from, c.to))

-- ---- the header's tests together, in the order of the clauses
pub sheet_header_tells : {limit : ℕ} {bytes : List ℕ} {long count offset clock total given : Bool}
    → Tells long (header_bytes ≤ length bytes)
    → Tells count (IsCountTo limit (count_word bytes))
    → Tells offset (offset_word bytes ≡ pos header_bytes)
    → Tells clock (IsMinute (clock_of bytes))
    → Tells total (total_word bytes ≡ pos (total_for (record_count bytes)))
    → Tells given (total_word bytes ≡ pos (length bytes))
    → Tells (long && count && offset && clock && total && given) (HeaderSound limit bytes)
sheet_header_tells long count offset clock total given =
    tells_as (tells_both (tells_both (tells_both (tells_both (tells_both long count) offset) clock) total) given)
    (λ h. record { whole_header = h.0.0.0.0.0; count_in = h.0.0.0.0.1; offset_is = h.0.0.0.1; clock_in = h.0.0.1; total_is = h.0.1; total_given = h.1 })
    (λ s. (((((s.whole_header, s.count_in), s.offset_is), s.clock_in), s.total_is), s.total_given))

-- ---- the ways through the test of a sheet
module _ {limit : ℕ} {bytes : List ℕ} where
  pub bad_header : (HeaderSound limit bytes → ⊥) → Judges limit bytes (Err BadHeader)
  bad_header n = record { refusal = inl (n, refl); sound = not_zero 10 }

  pub bad_record : HeaderSound limit bytes → (RecordsSound bytes → ⊥) → Judges limit bytes (Err BadRecord)
  bad_record h n = record { refusal = inr (λ f. f h, inl (n, refl)); sound = not_zero 11 }

  pub well_formed : HeaderSound limit bytes → RecordsSound bytes → Judges limit bytes (Ok tt)
  well_formed h r = record { refusal = inr (λ g. g h, inr (λ g. g r, refl)); sound = λ z. record { header = h; records = r } }

  -- what is found is fixed by the bytes
  pub judged_fixed : (r s : Result (Unit {0}) Refusal) → Judges limit bytes r → Judges limit bytes s → r ≡ s
  judged_fixed r s g h = same_answer r s (first_fixed (sheet_reasons limit bytes) (number_of r) (number_of s) g.refusal h.refusal) (λ _ _ _ _. refl)
