-- Two tables of one capacity and length that have the same clock and live cells give the same replies to every run of calls, and have the same clock and
-- live cells after it.
use Rattle.std.specs.Prelude.{◌≡◌, refl, ◌↔◌, List, ◌∷◌, ◌++◌, ℕ, ◌<◌, ℤ, length, drop, Result}
use Rattle.std.proofs.Common.{sym, ap, ap₂, ◌∙◌, subst, arith}
use mathlib.Core.Logic.Iff
use Rattle.std.proofs.Math.Decide.{ℕ_discrete}
use Rattle.leafing.specs.Laws.Search.{next_as}
use Rattle.words.specs.Words.{nat_of}
use Rattle.track.specs.Laws.Refusals.{first_fixed, first_as}
use Rattle.track.specs.Query.{still}
use Rattle.track.specs.declared.report.Report as track
use Rattle.track.specs.declared.queries.Query.{Query}
use Rattle.table.specs.Header.{capacity_word, words_for}
use Rattle.table.specs.Fresh.{fresh_reasons}
use Rattle.query.specs.Queried.{answer_number, answer_hits, Queried}
use Rattle.query.specs.Laws.Queried.{refused_hits}
use Rattle.leafing.specs.NextLive.{opening_reasons}
use Rattle.leafing.specs.Laws.NextLive.{steps_sound, steps_fixed}
use Rattle.sheet_write.specs.Written.{written_total}
use Rattle.sheet_write.specs.Laws.Written.{written_same}
use Rattle.charting.specs.Laws.Charted.{charted_same}
use Rattle.sheet_read.specs.Reads.{read_reasons, IsRead}
use Rattle.tree.specs.Steps.{ReportSteps}
use Rattle.alike.specs.Alike.{Alike}
use Rattle.alike.proofs.Laws.Alike.{still_alike, query_number, same_found, report_alike, drop_alike, fresh_alike, reports_change_places}
use Rattle.promises.specs.Happens.{Call, Fresh, Report, Drop, Window, Moving, Open, Leaf, Write, Chart, Read, Reply, Number, Listed, Given, Bytes, told, WasMade, WasReported, WasAsked, WasOpened, WasStepped, WasWritten, WasRead, Happens, Run, no_call, one_call}
use Rattle.promises.specs.Model.{Model, Together}
use Rattle.promises.specs.Laws.Together.{read_together, call_size}
use Rattle.track.specs.declared.refusal.Refusal.{Refusal}
use Rattle.query.specs.declared.answer.Found.{Found}
use Rattle.query.specs.declared.answer.NotListed.{NotListed}
use Rattle.track.specs.Refusals.{number_of}

-- two tables that go together with one model, of one capacity, are alike
pub model_alike : {m : Model} {w v : List ℤ} → capacity_word w ≡ capacity_word v → Together m w → Together m v → Alike w v
model_alike cells s t = record {
  sound = s.sound;
  sound' = t.sound;
  capacity_is = cells;
  clock_is = s.clock_is ∙ sym t.clock_is;
  live = λ c. (λ l. (t.live c).1 ((s.live c).0 l), λ l. (s.live c).1 ((t.live c).0 l));
}

-- ---- a query
module _ {w v : List ℤ} (a : Alike w v) (B : Type 0) (q : Query) (list : List ℤ) where
  module _ {r s : Result Found NotListed} {list' list'' : List ℤ} (p : Queried w B q list r list') (p' : Queried v B q list s list'') where
    number_same : answer_number r ≡ answer_number s
    number_same = query_number a B q (length list) (answer_number r) (answer_number s) p.refusal p'.refusal

    abbrev Same : Type 0
    Same = (answer_number r ≡ answer_number s) × (answer_hits r ≡ answer_hits s) × (list' ≡ list'')

    listed : answer_number r ≡ 0 → Same
    listed e =
        let l = p.accepted e in
        let m = p'.accepted (sym number_same ∙ e) in
        let ids : l.ids ≡ m.ids = same_found {B = B} {places = length list} a (λ x. omega arith) (λ x. omega arith) (λ x. omega arith) p.refusal l.hits m.hits in
        (number_same, l.hit_count ∙ ap length ids ∙ sym m.hit_count, l.written ∙ ap (λ (ids : List ℤ). ids ++ drop (length ids) list) ids ∙ sym m.written)

    counted : answer_number r ≡ 10 → Same
    counted e =
        let l = p.counted e in
        let m = p'.counted (sym number_same ∙ e) in
        let ids : l.ids ≡ m.ids = same_found {B = B} {places = length list} a (λ x. omega arith) (λ x. omega arith) (λ x. omega arith) p.refusal l.hits m.hits in
        (number_same, l.hit_count ∙ ap length ids ∙ sym m.hit_count, p.unchanged (λ z. omega arith) ∙ sym (p'.unchanged (λ z. omega (arith, number_same))))

    refused : (answer_number r ≡ 0 → ⊥) → (answer_number r ≡ 10 → ⊥) → Same
    refused x y =
        (number_same, refused_hits r x y ∙ sym (refused_hits s (λ z. x (number_same ∙ z)) (λ z. y (number_same ∙ z))), p.unchanged x ∙ sym (p'.unchanged (λ z. x (number_same ∙ z))))

    queried_alike : Same
    queried_alike = by (ℕ_discrete (answer_number r) 0) (ℕ_discrete (answer_number r) 10)
      where
        by : Dec (answer_number r ≡ 0) → Dec (answer_number r ≡ 10) → Same
        by (yes e) d = listed e
        by (no x) (yes e) = counted e
        by (no x) (no y) = refused x y

  asked_alike : {x y : Reply} {w' v' : List ℤ} → WasAsked w B q list x w' → WasAsked v B q list y v' → (x ≡ y) × Alike w' v'
  asked_alike p p' =
      let same = queried_alike p.queried p'.queried in (
        p.reply ∙ ap (λ (n : ℕ). Listed n (answer_hits p.answer) p.list') same.0 ∙ ap₂ (Listed (answer_number p'.answer)) same.1 same.2 ∙ sym p'.reply,
        still_alike a p.unchanged p'.unchanged,
      )

-- ---- a step of the leafing looks at the live cells alone
leafed_alike : {w v : List ℤ} {last : ℤ} {x y : Reply} {w' v' : List ℤ} → Alike w v → WasStepped w last x w' → WasStepped v last y v' → (x ≡ y) × Alike w' v'
leafed_alike {last} a p q =
    let there = steps_sound a.sound' last p.next (next_as _ _ last (λ c. (a.live c).0) (λ c l up. (a.live c).1 l) p.next (p.steps.sound a.sound)) in
    (p.reply ∙ ap Given (steps_fixed p.next q.next there q.steps) ∙ sym q.reply, still_alike a p.unchanged q.unchanged)

-- ---- a sheet and tracks depend on the clock and the live cells alone
wrote_alike : {w v : List ℤ} {X Y : Result ℕ Refusal → List ℕ → Type 0} {x y : Reply} {w' v' : List ℤ} → Alike w v → ((r s : Result ℕ Refusal) (b c : List ℕ) → X r b → Y s c → (r ≡ s) × (b ≡ c))
    → WasWritten w X x w' → WasWritten v Y y v' → (x ≡ y) × Alike w' v'
wrote_alike a writes_same p q =
    let same = writes_same p.written q.written p.bytes' q.bytes' p.writes q.writes in (
      p.reply ∙ ap₂ (λ r b. Bytes (number_of r) (written_total r) b) same.0 same.1 ∙ sym q.reply,
      still_alike a p.unchanged q.unchanged,
    )

-- ---- an opening looks at nothing but soundness
opened_alike : {w v : List ℤ} {x y : Reply} {w' v' : List ℤ} → Alike w v → WasOpened w x w' → WasOpened v y v' → (x ≡ y) × Alike w' v'
opened_alike {w} {v} a p q = (p.reply ∙ ap Number same ∙ sym q.reply, still_alike a p.unchanged q.unchanged)
  where
    same : p.number ≡ q.number
    same =
        first_fixed (opening_reasons v) p.number q.number
        (first_as (opening_reasons w) (opening_reasons v) p.number (refl, (λ n. absurd (n a.sound), λ n. absurd (n a.sound')), tt) p.refusal)
        q.refusal

-- ---- a new start looks at the length alone
-- by the number, which is the same for both
alike_by : {w v w' v' : List ℤ} {m n : ℕ} → Alike w v → m ≡ n → (m ≡ 0 → n ≡ 0 → Alike w' v') → ((m ≡ 0 → ⊥) → w' ≡ w) → ((n ≡ 0 → ⊥) → v' ≡ v) → Alike w' v'
alike_by {w'} {v'} {m} a same done left left' = by (ℕ_discrete m 0)
  where
    by : Dec (m ≡ 0) → Alike w' v'
    by (yes e) = done e (sym same ∙ e)
    by (no h) = still_alike a (left h) (left' (λ e. h (same ∙ e)))

module _ {w v : List ℤ} (a : Alike w v) (long : length w ≡ length v) (cells : ℤ) where
  short_alike : (length w < words_for (nat_of cells)) ↔ (length v < words_for (nat_of cells))
  short_alike = (λ lt. rw (← long) lt, λ lt. rw long lt)

  made_alike : {x y : Reply} {w' v' : List ℤ} → WasMade w cells x w' → WasMade v cells y v' → (x ≡ y) × Alike w' v'
  made_alike p q = (p.reply ∙ ap Number same ∙ sym q.reply, alike_by a same (λ e f. fresh_alike (p.makes.accepted e) (q.makes.accepted f)) p.makes.refused q.makes.refused)
    where
      same : p.number ≡ q.number
      same =
          first_fixed (fresh_reasons cells v) p.number q.number
          (first_as (fresh_reasons cells w) (fresh_reasons cells v) p.number (refl, Iff.rfl, (refl, short_alike, tt)) p.makes.refusal)
          q.makes.refusal

  read_alike : {bytes : List ℕ} {x y : Reply} {w' v' : List ℤ} → WasRead w cells bytes x w' → WasRead v cells bytes y v' → (x ≡ y) × Alike w' v'
  read_alike {bytes} {w'} {v'} p q = (
    p.reply ∙ ap Number same ∙ sym q.reply,
    alike_by a same (λ e f. both (p.reads.accepted e) (q.reads.accepted f)) p.reads.refused q.reads.refused,
  )
    where
      same : number_of p.outcome ≡ number_of q.outcome
      same =
          first_fixed (read_reasons cells v bytes) (number_of p.outcome) (number_of q.outcome)
          (first_as (read_reasons cells w bytes) (read_reasons cells v bytes) (number_of p.outcome)
          (refl, Iff.rfl, (refl, short_alike, (refl, Iff.rfl, (refl, Iff.rfl, (refl, Iff.rfl, tt)))))
          p.reads.refusal)
          q.reads.refusal

      both : IsRead cells w bytes w' → IsRead cells v bytes v' → Alike w' v'
      both r s = model_alike (r.capacity_is ∙ sym s.capacity_is) (read_together r) (read_together s)

-- ---- any call, and any run of calls
pub call_alike : {w v : List ℤ} → Alike w v → length w ≡ length v → (c : Call) (x y : Reply) {w' v' : List ℤ} → Happens w c x w' → Happens v c y v' → (x ≡ y) × Alike w' v'
call_alike a long (Fresh cells) s t p p' = made_alike a long cells p p'
call_alike a long (Report r) s t p p' = let both = report_alike a p.steps p'.steps in (p.reply ∙ ap Number both.0 ∙ sym p'.reply, both.1)
call_alike a long (Drop id minute) s t p p' = let both = drop_alike a p.steps p'.steps in (p.reply ∙ ap Number both.0 ∙ sym p'.reply, both.1)
call_alike a long (Window q list) s t p p' = asked_alike a _ (still q) list p p'
call_alike a long (Moving q list) s t p p' = asked_alike a _ q list p p'
call_alike a long Open s t p p' = opened_alike a p p'
call_alike a long (Leaf last) s t p p' = leafed_alike a p p'
call_alike a long (Write bytes) s t p p' = wrote_alike a (λ m n b c. written_same a.clock_is a.live (λ s. a.sound', λ s. a.sound)) p p'
call_alike a long (Chart bytes) s t p p' = wrote_alike a (λ m n b c. charted_same a.clock_is a.live (λ s. a.sound', λ s. a.sound)) p p'
call_alike a long (Read cells bytes) s t p p' = read_alike a long cells p p'

pub run_alike : {w v : List ℤ} {calls : List Call} {xs ys : List Reply} {w' v' : List ℤ} → Alike w v → length w ≡ length v → Run w calls xs w' → Run v calls ys v' → (xs ≡ ys) × Alike w' v'
run_alike a long no_call no_call = (refl, a)
run_alike a long (one_call {c} {a = x} p run) (one_call {a = y} q again) =
    let here = call_alike a long c x y p q in
    let rest = run_alike here.1 ((call_size c x p).as_long ∙ long ∙ sym (call_size c y q).as_long) run again in
    (ap₂ ◌∷◌ here.0 rest.0, rest.1)

-- ---- tables that runs reach
-- by two reports that change places, and what comes after them
report_done : {r : track.Report} {w v : List ℤ} → WasReported w r (Number 0) v → ReportSteps w r 0 v
report_done {r} {w} {v} h = subst (λ (n : ℕ). ReportSteps w r n v) (sym (ap told h.reply)) h.steps

pub exchanged_alike : {r s : track.Report} {w u u' : List ℤ} {further : List Call} {xs ys : List Reply} → (r.id ≡ s.id → ⊥) → r.minute ≡ s.minute
    → Run w (Report r ∷ Report s ∷ further) (Number 0 ∷ Number 0 ∷ xs) u → Run w (Report s ∷ Report r ∷ further) (Number 0 ∷ Number 0 ∷ ys) u' → (xs ≡ ys) × Alike u u'
exchanged_alike differ minute (one_call {c = one} p (one_call {c = other} q run)) (one_call p' (one_call q' run')) =
    run_alike (reports_change_places differ minute (report_done p) (report_done q) (report_done p') (report_done q'))
    ((call_size other (Number 0) q).as_long ∙ (call_size one (Number 0) p).as_long ∙ sym ((call_size one (Number 0) q').as_long ∙ (call_size other (Number 0) p').as_long))
    run run'
