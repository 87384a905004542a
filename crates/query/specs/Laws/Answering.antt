-- Each way through the answer to a query, and the reasons of the judging and of the listing put together.
use Rattle.std.specs.Prelude.{◌≡◌, refl, List, ◌∷◌, ◌++◌, map, ℕ, ◌≤◌, ◌<◌, ℤ, pos, length, take, drop, ◌≤ℤ◌, Result, Ok, Err, IfOk}
use Rattle.std.proofs.Common.{sym, ◌∙◌, inl, inr, arith, length-take-le}
use Rattle.std.proofs.lemmas.List.{length-map}
use Rattle.whole.specs.Laws.Order.{not_before}
use Rattle.track.specs.Laws.Accepted.{query_none_zero, taken_in_range}
use Rattle.track.specs.Query.{query_reasons, Asks}
use Rattle.track.specs.Refusals.{◌when◌, First, number, number_of}
use Rattle.track.specs.Laws.Refusals.{none_holds, first_then, not_zero, refused_not_zero}
use Rattle.track.specs.declared.queries.Query.{Query}
use Rattle.track.specs.declared.refusal.Refusal.{Refusal}
use Rattle.track.specs.declared.refusal.Refusal.TheVariants.{NotSound}
use Rattle.table.specs.Header.{clock}
use Rattle.table.specs.Sound.{Sound}
use Rattle.query.specs.Hits.{MoreHits}
use Rattle.query.specs.Queried.{answer_number, reasons, Answers, Queried}
use Rattle.query.specs.Laws.Queried.{hits_length}
use Rattle.query.specs.Inner.IdsWritten.{CanWrite}
use Rattle.query.specs.Inner.Gathering.{CanAsk, Gathered}
use Rattle.query.specs.Laws.Gathering.{key_small}
use Rattle.query.specs.Inner.Answering.{too_many, asked_query, judged_reasons, JudgedAtClock}
use Rattle.query.specs.declared.answer.Found.{Found}
use Rattle.query.specs.declared.answer.NotListed.TheVariants.{TooMany, Refused}
use Rattle.query.specs.declared.answer.NotListed.{NotListed}

module _ {w : List ℤ} {q : Query} {r : Found} {keys : List ℕ} (g : Gathered w q r keys) (list : List ℤ) where
  hit_count : length (map pos (take r.hits keys)) ≡ r.hits
  hit_count = length-map (take r.hits keys) pos ∙ length-take-le r.hits keys g.inside

  pub can_write : CanAsk w q → r.hits ≤ length list → CanWrite list keys r.hits
  can_write a fits = record { fits = fits; inside = g.inside; small = key_small a g }

  pub answers_too_many : length list < r.hits → Answers (too_many w q list) w q list (Err (TooMany r.hits)) list
  answers_too_many more = record {
    refusal = inl (record { ids = map pos (take r.hits keys); hits = g.hits; more = omega (arith, hit_count) }, refl);
    accepted = not_zero 9;
    counted = λ e. record { ids = map pos (take r.hits keys); hits = g.hits; hit_count = sym hit_count };
    unchanged = λ n. refl;
  }

  pub answers_listed : {list' : List ℤ} → r.hits ≤ length list → list' ≡ map pos (take r.hits keys) ++ drop r.hits list → Answers (too_many w q list) w q list (Ok r) list'
  answers_listed fits written = record {
    refusal = inr (λ (m : MoreHits w q (length list)). omega (arith, m.more, hits_length m.hits g.hits, hit_count), refl);
    accepted = λ e. record {
      ids = map pos (take r.hits keys);
      hits = g.hits;
      written = written ∙ rw hit_count;
      hit_count = sym hit_count;
      opened_count = g.opened;
    };
    counted = λ e. absurd (omega arith);
    unchanged = λ n. absurd (n refl);
  }

pub answers_unsound : {w : List ℤ} (a : Result Query Refusal) {list : List ℤ} → (Sound w → ⊥) → Answers (judged_reasons w a list) w (asked_query a) list (Err (Refused NotSound)) list
answers_unsound a n = record { refusal = inl (n, refl); accepted = not_zero 0; counted = λ e. absurd (omega arith); unchanged = λ m. refl }

module _ {w : List ℤ} {a : Result Query Refusal} (sound : Sound w) (j : JudgedAtClock w a) where
  pub can_ask : {q : Query} → a ≡ Ok q → CanAsk w q
  can_ask e = let i = rw e at j in record { sound = sound; query_in = i.query_in; due = i.due }

  pub answers_taken : {q : Query} {list : List ℤ} {r : Result Found NotListed} {list' : List ℤ} → a ≡ Ok q → Answers (too_many w q list) w q list r list'
      → Answers (judged_reasons w a list) w (asked_query a) list r list'
  answers_taken e h = rw e (record { refusal = inr (λ n. n sound, inr (λ n. n refl, h.refusal)); accepted = h.accepted; counted = h.counted; unchanged = h.unchanged })

  pub answers_refused : {why : Refusal} {list : List ℤ} → a ≡ Err why → Answers (judged_reasons w a list) w (asked_query a) list (Err (Refused why)) list
  answers_refused {why} e =
      let other = rw e at j.not_ten in
      rw e
      (record {
        refusal = inr (λ n. n sound, inl (refused_not_zero why, refl));
        accepted = λ z. absurd (refused_not_zero why z);
        counted = λ t. absurd (other t);
        unchanged = λ n. refl;
      })

-- ---- the answer of a call
asked_not_ten : {now : ℤ} {Backward : Type 0} {q : Query} {a : Result Query Refusal} → Asks now Backward q a → number_of a ≡ 10 → ⊥
asked_not_ten {now} {Backward} {q} {a} s e = by s.refusal
  where
    by : First (query_reasons now Backward q) (number_of a) → ⊥
    by (inl h) = omega arith
    by (inr (n, inl h)) = omega arith
    by (inr (n, inr (m, inl h))) = omega arith
    by (inr (n, inr (m, inr h))) = omega arith

module _ {w : List ℤ} {Backward : Type 0} {q : Query} where
  pub judged_of : {a : Result Query Refusal} → Asks (clock w) Backward q a → JudgedAtClock w a
  judged_of {a} s = record { query_in = taken_in_range s; due = in_time a s; not_ten = asked_not_ten s }
    where
      in_time : (a : Result Query Refusal) → Asks (clock w) Backward q a → IfOk a (λ asked. clock w ≤ℤ asked.start.at)
      in_time (Ok asked) s =
          let none = none_holds (query_reasons (clock w) Backward q) 0 (query_none_zero (clock w) Backward q) s.refusal refl in
          rw s.query (not_before none.1.0)
      in_time (Err why) s = tt

  -- the reasons of the judging and of the answer, one after the other
  all_reasons : {a : Result Query Refusal} (list : List ℤ) (n : ℕ) → Asks (clock w) Backward q a → First (1 when (Sound w → ⊥) ∷ number_of a when (number_of a ≡ 0 → ⊥) ∷ too_many w q list) n
      → First (reasons w Backward q list) n
  all_reasons list n s (inl h) = inl h
  all_reasons {a} list n s (inr h) =
      inr (h.0, first_then (query_reasons (clock w) Backward q) (too_many w q list) (number_of a) n (query_none_zero (clock w) Backward q) s.refusal h.1)

  pub queried : {a : Result Query Refusal} {list : List ℤ} {r : Result Found NotListed} {list' : List ℤ} → Asks (clock w) Backward q a → Answers (judged_reasons w a list) w (asked_query a) list r list'
      → Queried w Backward q list r list'
  queried {a = Ok taken} {list} {r} s h =
      let j = rw s.query at h in
      record { refusal = all_reasons list (answer_number r) s j.refusal; accepted = j.accepted; counted = j.counted; unchanged = j.unchanged }
  queried {a = Err why} {list} {r} s h = record {
    refusal = all_reasons list (answer_number r) s (given h.refusal);
    accepted = λ z. absurd (not_zero_given h.refusal z);
    counted = λ t. absurd (not_ten_given h.refusal t);
    unchanged = h.unchanged;
  }
    where
      given : First (judged_reasons w (Err why) list) (answer_number r) → First (1 when (Sound w → ⊥) ∷ number why when (number why ≡ 0 → ⊥) ∷ too_many w q list) (answer_number r)
      given (inl f) = inl f
      given (inr (n, inl f)) = inr (n, inl f)
      given (inr (n, inr f)) = absurd (f.0 (refused_not_zero why))

      not_zero_given : First (judged_reasons w (Err why) list) (answer_number r) → answer_number r ≡ 0 → ⊥
      not_zero_given (inl f) z = omega arith
      not_zero_given (inr (n, inl f)) z = refused_not_zero why (sym f.1 ∙ z)
      not_zero_given (inr (n, inr f)) z = f.0 (refused_not_zero why)

      not_ten_given : First (judged_reasons w (Err why) list) (answer_number r) → answer_number r ≡ 10 → ⊥
      not_ten_given (inl f) t = omega arith
      not_ten_given (inr (n, inl f)) t = asked_not_ten s (sym f.1 ∙ t)
      not_ten_given (inr (n, inr f)) t = f.0 (refused_not_zero why)
