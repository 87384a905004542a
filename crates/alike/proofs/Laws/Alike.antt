-- Tables that are alike give one number to each call, list the same cells, and are alike after it.
use Rattle.std.specs.Prelude.{◌≡◌, refl, ◌⊎◌, ◌↔◌, List, [], ◌∷◌, ◌++◌, ℕ, ℤ, ◌≤ℤ◌, ◌<ℤ◌}
use Rattle.std.proofs.Common.{sym, ap, ◌∙◌, subst, inl, inr, ⊎_elim, arith}
use mathlib.Core.List.Memᴰ
use Rattle.std.proofs.Math.Decide.{ℕ_discrete}
use Rattle.whole.specs.Lists.{◌∈◌}
use Rattle.whole.specs.Laws.Order.{≤ℤ-<ℤ_trans, not_before}
use Rattle.words.specs.Words.{nat_of}
use Rattle.track.specs.Life.{LivesAt}
use Rattle.track.specs.Laws.Life.{lives_at_start}
use Rattle.track.specs.Query.{query_reasons}
use Rattle.track.specs.Refusals.{Reason, ◌when◌, First}
use Rattle.track.specs.Laws.Refusals.{first_fixed}
use Rattle.track.specs.Report.{kept_cell}
use Rattle.track.specs.declared.cell.Cell.{Cell}
use Rattle.track.specs.declared.report.Report.{Report}
use Rattle.track.specs.declared.queries.Query.{Query}
use Rattle.table.specs.Header.{clock}
use Rattle.table.specs.Sound.{held, Live, Sound}
use Rattle.table.specs.Fresh.{IsFresh}
use Rattle.tree.specs.Steps.{Stays, IsThere, NoRoom, Step, report_refusals, ReportSteps, drop_refusals, DropSteps}
use Rattle.tree.specs.Laws.Steps.{report_late, drop_late}
use Rattle.query.specs.Hits.{Hit, Hits, MoreHits}
use Rattle.query.specs.Laws.Queried.{hits_fixed}
use Rattle.alike.specs.Alike.{Alike}

-- ---- reasons that hold alike where those before them do not hold
abbrev SameIf : List Reason → List Reason → Type 0
SameIf [] [] = Unit {0}
SameIf [] (l when Q ∷ ss) = ⊥
SameIf (k when P ∷ rs) [] = ⊥
SameIf (k when P ∷ rs) (l when Q ∷ ss) = (k ≡ l) × (P ↔ Q) × ((P → ⊥) → SameIf rs ss)

first_if : (rs ss : List Reason) (n : ℕ) → SameIf rs ss → First rs n → First ss n
first_if [] [] n s h = h
first_if [] (l when Q ∷ ss) n s h = absurd s
first_if (k when P ∷ rs) [] n s h = absurd s
first_if (k when P ∷ rs) (l when Q ∷ ss) n s (inl h) = inl (s.1.0 h.0, h.1 ∙ s.0)
first_if (k when P ∷ rs) (l when Q ∷ ss) n s (inr h) = inr (λ q. h.0 (s.1.1 q), first_if rs ss n (s.2 h.0) h.1)

always : {P : Type 0} → P ↔ P
always = (λ p. p, λ p. p)

-- why a query of a table is refused, with a list of so many places
abbrev pub reasons_at : List ℤ → Type 0 → Query → ℕ → List Reason
reasons_at w B q places = 1 when (Sound w → ⊥) ∷ (query_reasons (clock w) B q ++ (10 when (MoreHits w q places) ∷ []))

pub alike_sym : {w v : List ℤ} → Alike w v → Alike v w
alike_sym a = record {
  sound = a.sound';
  sound' = a.sound;
  capacity_is = sym a.capacity_is;
  clock_is = sym a.clock_is;
  live = λ c. ((a.live c).1, (a.live c).0);
}

pub alike_itself : {w : List ℤ} → Sound w → Alike w w
alike_itself s = record { sound = s; sound' = s; capacity_is = refl; clock_is = refl; live = λ c. always }

-- ---- what holds of one holds of the other, from the clock on
module _ {w v : List ℤ} (a : Alike w v) where
  held_too : (minute : ℤ) {c : Cell} → clock w ≤ℤ minute → LivesAt minute c → c ∈ held w → c ∈ held v
  held_too minute {c} late lives m = ((a.live c).0 (record { is_held = m; in_life = ≤ℤ-<ℤ_trans late lives })).is_held

  stays_too : (minute id : ℤ) {c : Cell} → clock w ≤ℤ minute → Stays w minute id c → Stays v minute id c
  stays_too minute id late s = record { is_held = held_too minute late s.lives s.is_held; lives = s.lives; other = s.other }

  there_too : (minute id : ℤ) → clock w ≤ℤ minute → IsThere w minute id → IsThere v minute id
  there_too minute id late t =
      record { cell = t.cell; is_held = held_too minute late t.lives t.is_held; lives = t.lives; has_id = t.has_id }

  room_too : (minute id : ℤ) → clock w ≤ℤ minute → NoRoom w minute id → NoRoom v minute id
  room_too minute id late r = record {
    others = r.others;
    once = r.once;
    each = λ c m. stays_too minute id late (r.each c m);
    full = r.full ∙ ap nat_of a.capacity_is;
  }

  hit_too : (q : Query) (id : ℤ) → clock w ≤ℤ q.start.at → Hit w q id → Hit v q id
  hit_too q id late h = record {
    cell = h.cell;
    is_held = held_too q.start.at late (lives_at_start h.cell q h.meets) h.is_held;
    has_id = h.has_id;
    meets = h.meets;
  }

module _ {w v : List ℤ} (a : Alike w v) where
  late_too : (minute : ℤ) → clock w ≤ℤ minute → clock v ≤ℤ minute
  late_too minute late = rw (← a.clock_is) late

  pub hits_too : {q : Query} {ids : List ℤ} → clock w ≤ℤ q.start.at → Hits w q ids → Hits v q ids
  hits_too {q} late h = record {
    rising = h.rising;
    only = λ id m. hit_too a q id late (h.only id m);
    all = λ id hit. h.all id (hit_too (alike_sym a) q id (late_too q.start.at late) hit);
  }

  more_too : (q : Query) (n : ℕ) → clock w ≤ℤ q.start.at → MoreHits w q n → MoreHits v q n
  more_too q n late m = record { ids = m.ids; hits = hits_too late m.hits; more = m.more }

  sound_alike : (Sound w → ⊥) ↔ (Sound v → ⊥)
  sound_alike = (λ n. absurd (n a.sound), λ n. absurd (n a.sound'))

  early_alike : (minute : ℤ) → (minute <ℤ clock w) ↔ (minute <ℤ clock v)
  early_alike minute = (λ lt. rw (← a.clock_is) lt, λ lt. rw a.clock_is lt)

-- ---- the numbers
module _ {w v : List ℤ} (a : Alike w v) where
  pub report_number_lem : (r : Report) (m n : ℕ) → First (report_refusals w r) m → First (report_refusals v r) n → m ≡ n
  report_number_lem r m n p p' =
      first_fixed (report_refusals v r) m n (first_if (report_refusals w r) (report_refusals v r) m same p) p'
    where
      same : SameIf (report_refusals w r) (report_refusals v r)
      same = (
        refl,
        sound_alike a,
        λ s. (
          refl,
          always,
          λ in_range. (
            refl,
            early_alike a r.minute,
            λ late. (
              refl,
              always,
              λ e.
                  (refl, (room_too a r.minute r.id (not_before late), room_too (alike_sym a) r.minute r.id (late_too a r.minute (not_before late))), λ f. tt),
            ),
          ),
        ),
      )

  pub drop-number : (id minute : ℤ) (m n : ℕ) → First (drop_refusals w id minute) m → First (drop_refusals v id minute) n → m ≡ n
  drop-number id minute m n p p' = first_fixed (drop_refusals v id minute) m n (first_if (drop_refusals w id minute) (drop_refusals v id minute) m same p) p'
    where
      same : SameIf (drop_refusals w id minute) (drop_refusals v id minute)
      same = (
        refl,
        sound_alike a,
        λ s. (
          refl,
          always,
          λ r. (
            refl,
            early_alike a minute,
            λ late.
                (refl, (λ none t. none (there_too (alike_sym a) minute id (late_too a minute (not_before late)) t), λ none t. none (there_too a minute id (not_before late) t)), λ f. tt),
          ),
        ),
      )

  pub query_number : (B : Type 0) (q : Query) (places m n : ℕ)
      → First (reasons_at w B q places) m → First (reasons_at v B q places) n → m ≡ n
  query_number B q places m n p p' = first_fixed (reasons_at v B q places) m n (first_if (reasons_at w B q places) (reasons_at v B q places) m same p) p'
    where
      same : SameIf (reasons_at w B q places) (reasons_at v B q places)
      same = (
        refl,
        sound_alike a,
        λ s. (
          refl,
          always,
          λ r. (
            refl,
            early_alike a q.start.at,
            λ late. (
              refl,
              always,
              λ b.
                  (refl, (more_too a q places (not_before late), more_too (alike_sym a) q places (late_too a q.start.at (not_before late))), λ f. tt),
            ),
          ),
        ),
      )

-- ---- the tables afterwards
pub still_alike : {w v w' v' : List ℤ} → Alike w v → w' ≡ w → v' ≡ v → Alike w' v'
still_alike a e f = rw (e, f) a

step_alike : {w v w' v' : List ℤ} {minute : ℤ} {L M : Cell → Type 0} → Alike w v → Step w w' minute L → Step v v' minute M → ((c : Cell) → L c ↔ M c) → Alike w' v'
step_alike a s t same = record {
  sound = s.sound;
  sound' = t.sound;
  capacity_is = s.capacity_is ∙ a.capacity_is ∙ sym t.capacity_is;
  clock_is = s.clock_is ∙ sym t.clock_is;
  live = λ c. (λ l. t.live c ((same c).0 (s.holds c l.is_held)), λ l. s.live c ((same c).1 (t.holds c l.is_held)));
}

stays_alike : {w v : List ℤ} {minute : ℤ} (id : ℤ) → Alike w v → clock w ≤ℤ minute → (c : Cell) → Stays w minute id c ↔ Stays v minute id c
stays_alike {minute} id a late c = (stays_too a minute id late, stays_too (alike_sym a) minute id (late_too a minute late))

pub report_alike : {w v : List ℤ} {r : Report} {w' v' : List ℤ} {m n : ℕ} → Alike w v → ReportSteps w r m w' → ReportSteps v r n v' → (m ≡ n) × Alike w' v'
report_alike {r} {w'} {v'} {m} {n} a p p' = (same, by (ℕ_discrete m 0))
  where
    same : m ≡ n
    same = report_number_lem a r m n p.refusal p'.refusal

    by : Dec (m ≡ 0) → Alike w' v'
    by (yes e) =
        let stays = stays_alike r.id a (report_late p e) in
        step_alike a (p.accepted e) (p'.accepted (sym same ∙ e)) (λ c. (⊎_elim inl (λ s. inr ((stays c).0 s)), ⊎_elim inl (λ s. inr ((stays c).1 s))))
    by (no h) = still_alike a (p.refused h) (p'.refused (λ e. h (same ∙ e)))

pub drop_alike : {w v : List ℤ} {id minute : ℤ} {w' v' : List ℤ} {m n : ℕ} → Alike w v → DropSteps w id minute m w' → DropSteps v id minute n v' → (m ≡ n) × Alike w' v'
drop_alike {id} {minute} {w'} {v'} {m} {n} a p p' = (same, by (ℕ_discrete m 0))
  where
    same : m ≡ n
    same = drop-number a id minute m n p.refusal p'.refusal

    by : Dec (m ≡ 0) → Alike w' v'
    by (yes e) = step_alike a (p.accepted e) (p'.accepted (sym same ∙ e)) (stays_alike id a (drop_late p e))
    by (no h) = still_alike a (p.refused h) (p'.refused (λ e. h (same ∙ e)))

-- a query of both whose number is none of 1, 4 and 5 starts at or after the clock, and so finds the same cells
pub same_found : {w v : List ℤ} {B : Type 0} {q : Query} {places n : ℕ} → Alike w v → (n ≡ 1 → ⊥) → (n ≡ 4 → ⊥) → (n ≡ 5 → ⊥)
    → First (reasons_at w B q places) n → {ids jds : List ℤ} → Hits w q ids → Hits v q jds → ids ≡ jds
same_found {w} {v} {B} {q} {places} {n} a x y z f h j = hits_fixed (hits_too a (late f) h) j
  where
    late : First (reasons_at w B q places) n → clock w ≤ℤ q.start.at
    late (inl h) = absurd (x h.1)
    late (inr (s, inl h)) = absurd (y h.1)
    late (inr (s, inr (r, inl h))) = absurd (z h.1)
    late (inr (s, inr (r, inr (l, h)))) = not_before l

-- so an accepted query of both lists the same cells
pub ids_alike : {w v : List ℤ} {B : Type 0} {q : Query} {places n : ℕ} → Alike w v → First (reasons_at w B q places) n → n ≡ 0
    → {ids jds : List ℤ} → Hits w q ids → Hits v q jds → ids ≡ jds
ids_alike {B} {places} a f e = same_found {B = B} {places = places} a (λ x. omega arith) (λ x. omega arith) (λ x. omega arith) f

-- fresh tables are alike
pub fresh_alike : {cells : ℤ} {u u' w v : List ℤ} → IsFresh cells u w → IsFresh cells u' v → Alike w v
fresh_alike f g = record {
  sound = f.sound;
  sound' = g.sound;
  capacity_is = f.capacity_is ∙ sym g.capacity_is;
  clock_is = f.clock_is ∙ sym g.clock_is;
  live = λ c. (λ l. absurd (Memᴰ.not-nil (rw f.none_held at l.is_held)), λ l. absurd (Memᴰ.not-nil (rw g.none_held at l.is_held)));
}

-- ---- two accepted reports on different cells in one minute can change places
-- what each leaves, with k and l the cells that are kept
abbrev LeftWith : List ℤ → ℤ → Cell → Cell → Type 0
LeftWith w minute k c = (c ≡ k) ⊎ Stays w minute k.id c

module _ {w u x u' x' : List ℤ} {minute : ℤ} {k l : Cell} (other : k.id ≡ l.id → ⊥) (s : Step w u minute (LeftWith w minute k)) (t : Step u x minute (LeftWith u minute l))
    (s' : Step w u' minute (LeftWith w minute l)) (t' : Step u' x' minute (LeftWith u' minute k)) where
  -- what is live after the other report stays when this one comes
  then_stays : {c : Cell} → LeftWith w minute l c → (c.id ≡ k.id → ⊥) → Live x' c
  then_stays {c} left differs =
      let live = s'.live c left in
      t'.live c (inr (record { is_held = live.is_held; lives = rw s'.clock_is at live.in_life; other = differs }))

  one_way : (c : Cell) → Live x c → Live x' c
  one_way c live = by (t.holds c live.is_held)
    where
      by : LeftWith u minute l c → Live x' c
      by (inl e) = then_stays (inl e) (λ f. other (sym f ∙ ap (λ (d : Cell). d.id) e))
      by (inr stays) = before (s.holds c stays.is_held)
        where
          before : LeftWith w minute k c → Live x' c
          before (inl e) = t'.live c (inl e)
          before (inr h) = then_stays (inr (record { is_held = h.is_held; lives = h.lives; other = stays.other })) h.other

places_changed : {w u x u' x' : List ℤ} {minute : ℤ} {k l : Cell} → (k.id ≡ l.id → ⊥) → Step w u minute (LeftWith w minute k) → Step u x minute (LeftWith u minute l)
    → Step w u' minute (LeftWith w minute l) → Step u' x' minute (LeftWith u' minute k) → Alike x x'
places_changed other s t s' t' = record {
  sound = t.sound;
  sound' = t'.sound;
  capacity_is = t.capacity_is ∙ s.capacity_is ∙ sym (t'.capacity_is ∙ s'.capacity_is);
  clock_is = t.clock_is ∙ sym t'.clock_is;
  live = λ c. (one_way other s t s' t' c, one_way (λ e. other (sym e)) s' t' s t c);
}

pub reports_change_places : {w u v u' v' : List ℤ} {r s : Report} → (r.id ≡ s.id → ⊥) → r.minute ≡ s.minute
    → ReportSteps w r 0 u → ReportSteps u s 0 v → ReportSteps w s 0 u' → ReportSteps u' r 0 v' → Alike v v'
reports_change_places {r} {s} other e p q p' q' =
    places_changed {k = kept_cell r} {l = kept_cell s} other (p.accepted refl) (at_the_minute q) (at_the_minute p') (q'.accepted refl)
  where
    at_the_minute : {w u : List ℤ} → ReportSteps w s 0 u → Step w u r.minute (LeftWith w r.minute (kept_cell s))
    at_the_minute {w} {u} steps = subst (λ (minute : ℤ). Step w u minute (LeftWith w minute (kept_cell s))) (sym e) (steps.accepted refl)
