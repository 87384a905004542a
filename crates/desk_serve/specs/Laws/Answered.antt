-- A table and a line have one answer, and tables that are alike answer every line alike.
use Rattle.std.specs.Prelude.{◌≡◌, refl, Option, Some, None, List, [], ◌∷◌, ◌++◌, ℕ, zero, suc, ◌≤◌, ℤ, pos, length, take, drop, Result, Ok, Err}
use Rattle.std.proofs.Common.{sym, ap₂, ◌∙◌, subst, arith}
use Rattle.std.proofs.Math.Decide.{dec_le, ℕ_discrete}
use Rattle.std.proofs.Math.Seq.{take-append_seam}
use Rattle.track.specs.Refusals.{First}
use Rattle.track.specs.Laws.Refusals.{first_fixed, refused_not_zero}
use Rattle.track.specs.declared.queries.Query.{Query}
use Rattle.table.specs.Sound.{Sound}
use Rattle.table.specs.Fresh.{IsFresh}
use Rattle.tree.specs.Steps.{report_refusals, drop_refusals}
use Rattle.query.specs.Hits.{Hits}
use Rattle.query.specs.Queried.{answer_number, answer_hits}
use Rattle.query.specs.Laws.Queried.{hits_fixed}
use Rattle.desk_lines.specs.Forms.{ReadsLine}
use Rattle.desk_lines.specs.declared.Line.{Line}
use Rattle.desk_lines.specs.declared.Line.TheVariants.{Cell, Drop, When, Move}
use Rattle.desk_answers.specs.AnswerLines.{NoLine, HitsLine}
use Rattle.desk_answers.specs.Laws.AnswerLines.{one_no, one_hits}
use Rattle.desk_lines.specs.Lines.{CutInto, last_line}
use Rattle.desk_lines.specs.Laws.Lines.{cut_once}
use Rattle.desk_serve.specs.Answered.{longest_line, desk_cells, AnswerLine, QueryLine, OutcomeLine, StepLine, IsLine, FormLine, Answered, Session, no_line, and_line}
use Rattle.alike.specs.Alike.{Alike}
use Rattle.alike.proofs.Laws.Alike.{query_number, ids_alike, report_alike, drop_alike, fresh_alike, alike_itself, reasons_at}
use Rattle.query.specs.declared.answer.NotListed.TheVariants.{TooMany, Refused}
use Rattle.query.specs.declared.answer.Found.{Found}
use Rattle.query.specs.declared.answer.NotListed.{NotListed}

-- ---- what a line is
same_reading : {line : List ℕ} (f g : Option Line) → ReadsLine line f → ReadsLine line g → f ≡ g
same_reading (Some f) g a b = sym (b.only f (a.right f refl))
same_reading None (Some g) a b = a.only g (b.right g refl)
same_reading None None a b = refl

pub same_line : {line : List ℕ} {f g : Option Line} → IsLine line f → IsLine line g → f ≡ g
same_line {line} {f} {g} a b = by (dec_le (length line) longest_line)
  where
    by : Dec (length line ≤ longest_line) → f ≡ g
    by (yes h) = same_reading f g (a.short h) (b.short h)
    by (no h) = a.long (omega arith) ∙ sym (b.long (omega arith))

-- ---- reports and drops
outcome_line_fixed : (n : ℕ) {a b : List ℕ} → OutcomeLine n a → OutcomeLine n b → a ≡ b
outcome_line_fixed zero p q = p ∙ sym q
outcome_line_fixed (suc n) p q = one_no p q

step_fixed : {S R : ℕ → Type 0} {a b : List ℕ} → ((m n : ℕ) → S m → R n → m ≡ n) → StepLine S a → StepLine R b → a ≡ b
step_fixed {b} same p q =
    let e = same p.number q.number p.steps q.steps in
    outcome_line_fixed p.number p.spelt (rw (← e) at q.spelt)

-- ---- queries
as_hits : (r : Result Found NotListed) (list : List ℤ) {a : List ℕ} → answer_number r ≡ 0 → AnswerLine r list a → HitsLine (take (answer_hits r) list) a
as_hits (Ok f) list e p = p
as_hits (Err (TooMany n)) list e p = absurd (omega arith)
as_hits (Err (Refused x)) list e p = absurd (refused_not_zero x e)

as_no : (r : Result Found NotListed) (list : List ℤ) {a : List ℕ} → (answer_number r ≡ 0 → ⊥) → AnswerLine r list a → NoLine (pos (answer_number r)) a
as_no (Ok f) list n p = absurd (n refl)
as_no (Err (TooMany m)) list n p = p
as_no (Err (Refused x)) list n p = p

-- two lines with one number, and with the same identifiers where nothing is refused
query_same : {w v : List ℤ} {B : Type 0} {q : Query} {a b : List ℕ} (p : QueryLine w B q a) (p' : QueryLine v B q b) → answer_number p.answer ≡ answer_number p'.answer
    → (answer_number p.answer ≡ 0 → (ids jds : List ℤ) → Hits w q ids → Hits v q jds → ids ≡ jds) → a ≡ b
query_same {a} {b} p p' same ids-same = by (ℕ_discrete (answer_number p.answer) 0)
  where
    by : Dec (answer_number p.answer ≡ 0) → a ≡ b
    by (yes e) =
        let g = sym same ∙ e in
        let l = p.queried.accepted e in
        let m = p'.queried.accepted g in
        let ids = ids-same e l.ids m.ids l.hits m.hits in
        let first : take (answer_hits p.answer) p.list' ≡ l.ids = rw (l.hit_count, l.written) (take-append_seam l.ids (drop (length l.ids) p.list)) in
        let second : take (answer_hits p'.answer) p'.list' ≡ m.ids = rw (m.hit_count, m.written) (take-append_seam m.ids (drop (length m.ids) p'.list)) in
        one_hits (rw first at (as_hits p.answer p.list' e p.spelt)) (rw (second ∙ sym ids) at (as_hits p'.answer p'.list' g p'.spelt))
    by (no n) = one_no (as_no p.answer p.list' n p.spelt) (rw (← same) at (as_no p'.answer p'.list' (λ e. n (same ∙ e)) p'.spelt))

-- the reasons look at the length of the list alone, and the desk's list has one length
tried : {w : List ℤ} {B : Type 0} {q : Query} {a : List ℕ} (p : QueryLine w B q a) → First (reasons_at w B q desk_cells) (answer_number p.answer)
tried {w} {B} {q} p =
    subst (λ (n : ℕ). First (reasons_at w B q n) (answer_number p.answer)) p.places p.queried.refusal

query_line_fixed : {w : List ℤ} {B : Type 0} {q : Query} {a b : List ℕ} → QueryLine w B q a → QueryLine w B q b → a ≡ b
query_line_fixed {w} {B} {q} p p' =
    query_same p p'
    (first_fixed (reasons_at w B q desk_cells) (answer_number p.answer) (answer_number p'.answer) (tried p) (tried p'))
    (λ e ids jds h j. hits_fixed h j)

query_alike : {w v : List ℤ} {B : Type 0} {q : Query} {a b : List ℕ} → Alike w v → QueryLine w B q a → QueryLine v B q b → a ≡ b
query_alike {B} {q} alike p p' =
    query_same p p' (query_number alike B q desk_cells (answer_number p.answer) (answer_number p'.answer) (tried p) (tried p'))
    (λ e ids jds h j. ids_alike {B = B} {places = desk_cells} alike (tried p) e h j)

-- ---- a form, and a line
form_fixed : (f : Option Line) (w v u : List ℤ) {a b : List ℕ} → FormLine f w v a → FormLine f w u b → a ≡ b
form_fixed (Some (Cell r)) w v u p q = step_fixed (λ i j s t. first_fixed (report_refusals w r) i j s.refusal t.refusal) p q
form_fixed (Some (Drop d)) w v u p q = step_fixed (λ i j s t. first_fixed (drop_refusals w d.id d.minute) i j s.refusal t.refusal) p q
form_fixed (Some (When k)) w v u p q = query_line_fixed p.1 q.1
form_fixed (Some (Move k)) w v u p q = query_line_fixed p.1 q.1
form_fixed None w v u p q = p.1 ∙ sym q.1

pub answered_fixed : {w v u : List ℤ} {line a b : List ℕ} → Answered w line v a → Answered w line u b → a ≡ b
answered_fixed {w} {v} {u} {b} p q =
    let e = same_line p.is q.is in
    form_fixed p.form w v u p.answered (subst (λ (f : Option Line). FormLine f w u b) (sym e) q.answered)

-- ---- tables that are alike answer alike, line after line
step_line_alike : {S R : ℕ → Type 0} {w v : List ℤ} {a b : List ℕ} → ((m n : ℕ) → S m → R n → (m ≡ n) × Alike w v) → StepLine S a → StepLine R b → (a ≡ b) × Alike w v
step_line_alike same p q =
    let e = same p.number q.number p.steps q.steps in
    (outcome_line_fixed p.number p.spelt (rw (← e.0) at q.spelt), e.1)

form_alike : (f : Option Line) (w v w' v' : List ℤ) {a b : List ℕ} → Alike w v → FormLine f w w' a → FormLine f v v' b → (a ≡ b) × Alike w' v'
form_alike (Some (Cell r)) w v w' v' alike p q = step_line_alike (λ i j s t. report_alike alike s t) p q
form_alike (Some (Drop d)) w v w' v' alike p q = step_line_alike (λ i j s t. drop_alike alike s t) p q
form_alike (Some (When k)) w v w' v' alike p q = (query_alike alike p.1 q.1, rw (p.0, q.0) alike)
form_alike (Some (Move k)) w v w' v' alike p q = (query_alike alike p.1 q.1, rw (p.0, q.0) alike)
form_alike None w v w' v' alike p q = (p.1 ∙ sym q.1, rw (p.0, q.0) alike)

pub answered_alike : {w v w' v' : List ℤ} {line a b : List ℕ} → Alike w v → Answered w line w' a → Answered v line v' b → (a ≡ b) × Alike w' v'
answered_alike {w} {v} {w'} {v'} {b} alike p q =
    let e = same_line p.is q.is in
    form_alike p.form w v w' v' alike p.answered (subst (λ (f : Option Line). FormLine f v v' b) (sym e) q.answered)

no_snoc : (ls : List (List ℕ)) (y : List ℕ) → [] ≡ ls ++ y ∷ [] → ⊥
no_snoc [] y e = let z : ◌≡◌ {A = ℕ} 0 1 = cc in omega arith
no_snoc (l ∷ ls) y e = let z : ◌≡◌ {A = ℕ} 0 1 = cc in omega arith

snoc_same : (ls ms : List (List ℕ)) (x y : List ℕ) → ls ++ x ∷ [] ≡ ms ++ y ∷ [] → (ls ≡ ms) × (x ≡ y)
snoc_same [] [] x y e = (refl, cc)
snoc_same [] (m ∷ ms) x y e = let tail : [] ≡ ms ++ y ∷ [] = cc in absurd (no_snoc ms y tail)
snoc_same (l ∷ ls) [] x y e = let tail : [] ≡ ls ++ x ∷ [] = cc in absurd (no_snoc ls x tail)
snoc_same (l ∷ ls) (m ∷ ms) x y e =
    let tails : ls ++ x ∷ [] ≡ ms ++ y ∷ [] = cc in
    let r = snoc_same ls ms x y tails in
    let front = r.0 in
    (cc, r.1)

pub session_alike : {w v w' v' : List ℤ} {ls ms : List (List ℕ)} {o p : List ℕ} → Alike w v → Session w ls w' o → Session v ms v' p → ls ≡ ms → (o ≡ p) × Alike w' v'
session_alike alike no_line no_line e = (refl, alike)
session_alike alike no_line (and_line {lines} {line} t y) e = absurd (no_snoc lines line e)
session_alike alike (and_line {lines} {line} s x) no_line e = absurd (no_snoc lines line (sym e))
session_alike {v'} alike (and_line {lines} {line} s x) (and_line {v} {lines = lines'} {line = line'} {answer} t y) e =
    let both = snoc_same lines lines' line line' e in
    let before = session_alike alike s t both.0 in
    let last = answered_alike before.1 x (subst (λ (l : List ℕ). Answered v l v' answer) (sym both.1) y) in
    (ap₂ ◌++◌ before.0 last.0, last.1)

-- a sound table is sound after any lines
pub session_sound : {w w' : List ℤ} {ls : List (List ℕ)} {o : List ℕ} → Sound w → Session w ls w' o → Sound w'
session_sound s t = (session_alike (alike_itself s) t t refl).1.sound

-- so whole runs from fresh tables print the same on the same input
pub run_fixed : {cells : ℤ} {u u' w v w' v' : List ℤ} {input r s o p : List ℕ} {ls ms : List (List ℕ)} → IsFresh cells u w → IsFresh cells u' v
    → CutInto input ls r → CutInto input ms s → Session w (ls ++ last_line r) w' o → Session v (ms ++ last_line s) v' p → o ≡ p
run_fixed f g x y s t =
    let once = cut_once x y in
    (session_alike (fresh_alike f g) s t (ap₂ (λ ls r. ls ++ last_line r) once.0 once.1)).0
