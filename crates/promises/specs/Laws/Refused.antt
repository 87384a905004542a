-- The number of any call on any words, and what a refused call and a call that only reads leave.
use Rattle.std.specs.Prelude.{◌≡◌, refl, ◌⊎◌, List, ℕ, ℤ, Result}
use Rattle.std.proofs.Common.{sym, ap, ap₂, ◌∙◌, inl, inr}
use Rattle.track.specs.Refusals.{First, number_of}
use Rattle.track.specs.declared.queries.Query.{Query}
use Rattle.query.specs.Queried.{answer_number, answer_hits, reasons}
use Rattle.query.specs.Laws.Queried.{refused_hits}
use Rattle.sheet_write.specs.Laws.Written.{refused_total}
use Rattle.promises.specs.Happens.{Call, Fresh, Report, Drop, Window, Moving, Open, Leaf, Write, Chart, Read, Reply, Number, Listed, Bytes, told, hits_told, WasAsked, WasWritten, Happens, reasons_of, refused_by, ChangesNothing, IsQuery, window, moving, GoesBack, OnlyReads, query, opening, step, writing, charting}
use Rattle.track.specs.declared.refusal.Refusal.{Refusal}

-- ---- the number is the first of the call's reasons that holds
pub call_number : (w : List ℤ) (c : Call) (a : Reply) (v : List ℤ) → Happens w c a v → First (reasons_of w c) (told a)
call_number w (Fresh cells) a v h = rw h.reply h.makes.refusal
call_number w (Report r) a v h = rw h.reply h.steps.refusal
call_number w (Drop id minute) a v h = rw h.reply h.steps.refusal
call_number w (Window q list) a v h = rw h.reply h.queried.refusal
call_number w (Moving q list) a v h = rw h.reply h.queried.refusal
call_number w Open a v h = rw h.reply h.refusal
call_number w (Leaf last) a v h = ap told h.reply
call_number w (Write bytes) a v h = rw h.reply h.writes.refusal
call_number w (Chart bytes) a v h = rw h.reply h.writes.refusal
call_number w (Read cells bytes) a v h = rw h.reply h.reads.refusal

-- ---- a call that only reads leaves its table as it was
pub only_reads : {w : List ℤ} {c : Call} (a : Reply) {v : List ℤ} → OnlyReads c → Happens w c a v → v ≡ w
only_reads a (query window) h = h.unchanged
only_reads a (query moving) h = h.unchanged
only_reads a opening h = h.unchanged
only_reads a step h = h.unchanged
only_reads a writing h = h.unchanged
only_reads a charting h = h.unchanged

-- ---- a refused call changes nothing
module _ {w : List ℤ} (c : Call) (a : Reply) {v : List ℤ} (refused : told a ≡ 0 → ⊥) where
  -- one that replies with its number alone
  numbered : {n : ℕ} → ((m hits : ℕ) → refused_by c m hits ≡ Number m) → a ≡ Number n → ((n ≡ 0 → ⊥) → v ≡ w) → ChangesNothing w c a v
  numbered form is same = record {
    same_table = same (λ e. refused (ap told is ∙ e));
    same_lent = is ∙ ap Number (sym (ap told is)) ∙ sym (form (told a) (hits_told a));
    no_hits = λ ten. ap hits_told is;
  }

  -- a query
  asked : {B : Type 0} {q : Query} {list : List ℤ} → ((n hits : ℕ) → refused_by c n hits ≡ Listed n hits list) → WasAsked w B q list a v → ChangesNothing w c a v
  asked {list} form h =
      let is = h.reply in
      let not : answer_number h.answer ≡ 0 → ⊥ = λ e. refused (ap told is ∙ e) in
      record {
        same_table = h.unchanged;
        same_lent =
            is ∙ ap (Listed (answer_number h.answer) (answer_hits h.answer)) (h.queried.unchanged not)
            ∙ ap₂ (λ n hits. Listed n hits list) (sym (ap told is)) (sym (ap hits_told is)) ∙ sym (form (told a) (hits_told a));
        no_hits = λ ten. ap hits_told is ∙ refused_hits h.answer not (λ e. ten (ap told is ∙ e));
      }

  -- a sheet or tracks written
  wrote : {bytes : List ℕ} {Writes : Result ℕ Refusal → List ℕ → Type 0} → ((n hits : ℕ) → refused_by c n hits ≡ Bytes n 0 bytes)
      → ((r : Result ℕ Refusal) (b : List ℕ) → Writes r b → (number_of r ≡ 0 → ⊥) → b ≡ bytes) → WasWritten w Writes a v → ChangesNothing w c a v
  wrote {bytes} form same h =
      let is = h.reply in
      let not : number_of h.written ≡ 0 → ⊥ = λ e. refused (ap told is ∙ e) in
      record {
        same_table = h.unchanged;
        same_lent =
            is ∙ ap₂ (Bytes (number_of h.written)) (refused_total h.written not) (same h.written h.bytes' h.writes not)
            ∙ ap (λ n. Bytes n 0 bytes) (sym (ap told is)) ∙ sym (form (told a) (hits_told a));
        no_hits = λ ten. ap hits_told is;
      }

pub call_refused : {w : List ℤ} (c : Call) (a : Reply) {v : List ℤ} → Happens w c a v → (told a ≡ 0 → ⊥) → ChangesNothing w c a v
call_refused (Fresh cells) a h n = numbered (Fresh cells) a n (λ m hits. refl) h.reply h.makes.refused
call_refused (Report r) a h n = numbered (Report r) a n (λ m hits. refl) h.reply h.steps.refused
call_refused (Drop id minute) a h n = numbered (Drop id minute) a n (λ m hits. refl) h.reply h.steps.refused
call_refused (Window q list) a h n = asked (Window q list) a n (λ n hits. refl) h
call_refused (Moving q list) a h n = asked (Moving q list) a n (λ n hits. refl) h
call_refused Open a h n = numbered Open a n (λ m hits. refl) h.reply (λ m. h.unchanged)
call_refused (Leaf last) a h n = absurd (n (ap told h.reply))
call_refused (Write bytes) a h n = wrote (Write bytes) a n (λ n hits. refl) (λ r b p. p.refused) h
call_refused (Chart bytes) a h n = wrote (Chart bytes) a n (λ n hits. refl) (λ r b p. p.refused) h
call_refused (Read cells bytes) a h n = numbered (Read cells bytes) a n (λ m hits. refl) h.reply h.reads.refused

-- ---- a query that goes backward is refused
refused_back : {w : List ℤ} {B : Type 0} {q : Query} (list : List ℤ) (n : ℕ) → First (reasons w B q list) n → B → (n ≡ 1) ⊎ ((n ≡ 4) ⊎ ((n ≡ 5) ⊎ (n ≡ 7)))
refused_back list n (inl h) b = inl h.1
refused_back list n (inr (s, inl h)) b = inr (inl h.1)
refused_back list n (inr (s, inr (r, inl h))) b = inr (inr (inl h.1))
refused_back list n (inr (s, inr (r, inr (l, inl h)))) b = inr (inr (inr h.1))
refused_back list n (inr (s, inr (r, inr (l, inr h)))) b = absurd (h.0 (inl b))

pub backward : (w : List ℤ) {c : Call} {q : Query} {list : List ℤ} (a : Reply) (v : List ℤ) (query : IsQuery c q list) → Happens w c a v → GoesBack query
    → (told a ≡ 1) ⊎ ((told a ≡ 4) ⊎ ((told a ≡ 5) ⊎ (told a ≡ 7)))
backward w {c} {list} a v window h = refused_back list (told a) (call_number w c a v h)
backward w {c} {list} a v moving h = refused_back list (told a) (call_number w c a v h)
