-- Table and model go together after any calls; and what becomes of a table's size.
use Rattle.std.specs.Prelude.{◌≡◌, refl, true, ◌⊎◌, List, ◌∷◌, ℕ, zero, suc, ℤ, length, ◌≤ℤ◌}
use Rattle.std.proofs.Common.{sym, ap, ◌∙◌, inl, inr, ⊎_elim, arith}
use mathlib.Core.List.Memᴰ
use Rattle.std.proofs.Math.IntN.{ℤ_discrete}
use Rattle.whole.specs.Lists.{◌∈◌}
use Rattle.whole.specs.Laws.Lists.{keep_in, in_keep}
use Rattle.whole.specs.Laws.Order.{≤ℤ-<ℤ_trans}
use Rattle.track.specs.Life.{LivesAt}
use Rattle.track.specs.Laws.Refusals.{not_zero}
use Rattle.track.specs.declared.cell.Cell.{Cell}
use Rattle.table.specs.Header.{capacity_word, clock}
use Rattle.table.specs.Fresh.{IsFresh}
use Rattle.tree.specs.Steps.{Stays, Step}
use Rattle.tree.specs.Laws.Steps.{report_late, drop_late}
use Rattle.sheet_read.specs.Reads.{IsRead}
use Rattle.promises.specs.Happens.{Call, Fresh, Report, Drop, Window, Moving, Open, Leaf, Write, Chart, Read, Reply, told, Happens, Run, no_call, one_call}
use Rattle.promises.specs.Model.{Model, Together, fresh, of_sheet, differs, others, accepted, after, Start, made, read, accepted_capacity, capacity_after, Sized}
use Rattle.track.specs.Refusals.{number_of}

-- ---- cells with other identifiers
module _ {P : Type 0} where
  differs_not : (d : Dec P) → differs d ≡ true → P → ⊥
  differs_not (yes p) e q = let z : ◌≡◌ {A = ℕ} 0 1 = cc in omega arith
  differs_not (no n) e q = n q

  not_differs : (d : Dec P) → (P → ⊥) → differs d ≡ true
  not_differs (yes p) n = absurd (n p)
  not_differs (no m) n = refl

others_in : (id : ℤ) (cells : List Cell) {c : Cell} → c ∈ others id cells → (c ∈ cells) × (c.id ≡ id → ⊥)
others_in id cells {c} m = let k = keep_in (λ d. differs (ℤ_discrete d.id id)) cells m in (k.0, differs_not (ℤ_discrete c.id id) k.1)

in_others : (id : ℤ) {cells : List Cell} {c : Cell} → c ∈ cells → (c.id ≡ id → ⊥) → c ∈ others id cells
in_others id {c} m n = in_keep (λ d. differs (ℤ_discrete d.id id)) m (not_differs (ℤ_discrete c.id id) n)

-- ---- a step at a minute that is not before the clock: what stays in the table is what the model has besides the identifier
module _ {m : Model} {w : List ℤ} (t : Together m w) {minute id : ℤ} (late : clock w ≤ℤ minute) where
  stays_left : (c : Cell) → Stays w minute id c → c ∈ others id m.left
  stays_left c s = in_others id ((t.live c).0 (record { is_held = s.is_held; in_life = ≤ℤ-<ℤ_trans late s.lives })).is_left s.other

  left_stays : (c : Cell) → LivesAt minute c → c ∈ others id m.left → Stays w minute id c
  left_stays c lives n =
      let o = others_in id m.left n in
      let l = (t.live c).1 (record { is_left = o.0; in_life = rw (← t.clock_is) (≤ℤ-<ℤ_trans late lives) }) in
      record { is_held = l.is_held; lives = lives; other = o.1 }

  drop_together : {v : List ℤ} → Step w v minute (Stays w minute id) → Together (record { clock = minute; left = others id m.left }) v
  drop_together s = record {
    sound = s.sound;
    clock_is = s.clock_is;
    live = λ c. (
      λ l. record { is_left = stays_left c (s.holds c l.is_held); in_life = rw s.clock_is at l.in_life },
      λ l. s.live c (left_stays c l.in_life l.is_left),
    );
  }

  report_together : {v : List ℤ} {k : Cell} → Step w v minute (λ c. (c ≡ k) ⊎ Stays w minute id c) → Together (record { clock = minute; left = k ∷ others id m.left }) v
  report_together {k} s = record {
    sound = s.sound;
    clock_is = s.clock_is;
    live = λ c. (
      λ l. record { is_left = ⊎_elim (λ e. Memᴰ.head e) (λ y. Memᴰ.tail (stays_left c y)) (s.holds c l.is_held); in_life = rw s.clock_is at l.in_life },
      λ l. s.live c (⊎_elim (λ e. inl e) (λ n. inr (left_stays c l.in_life n)) (Memᴰ.cases_cons l.is_left)),
    );
  }

-- ---- where a run starts
fresh_together : {cells : ℤ} {w v : List ℤ} → IsFresh cells w v → Together fresh v
fresh_together f = record {
  sound = f.sound;
  clock_is = f.clock_is;
  live = λ c. (λ l. absurd (Memᴰ.not-nil (rw f.none_held at l.is_held)), λ l. absurd (Memᴰ.not-nil l.is_left));
}

pub read_together : {cells : ℤ} {w v : List ℤ} {bytes : List ℕ} → IsRead cells w bytes v → Together (of_sheet bytes) v
read_together r = record {
  sound = r.sound;
  clock_is = r.clock_is;
  live = λ c. (
    λ l. record { is_left = (r.holds c).0 l.is_held; in_life = rw r.clock_is at l.in_life },
    λ l. record { is_held = (r.holds c).1 l.is_left; in_life = rw r.clock_is l.in_life },
  );
}

pub start_together : {m : Model} {v : List ℤ} → Start m v → Together m v
start_together (made h) = fresh_together (h.makes.accepted (sym (ap told h.reply)))
start_together (read h) = read_together (h.reads.accepted (sym (ap told h.reply)))

-- ---- a call by its number: what it makes of the model where it is accepted, and the table as it was where it is refused
by_number : {m : Model} {w v : List ℤ} (c : Call) (n : ℕ) → Together m w → (n ≡ 0 → Together (accepted m c) v) → ((n ≡ 0 → ⊥) → v ≡ w) → Together (after m c n) v
by_number c zero t done refused = done refl
by_number c (suc n) t done refused = rw (refused (not_zero n)) t

-- after each call table and model go together still
pub call_together : {m : Model} {w : List ℤ} (c : Call) (a : Reply) {v : List ℤ} → Together m w → Happens w c a v → Together (after m c (told a)) v
call_together (Fresh cells) a t h = rw h.reply (by_number (Fresh cells) h.number t (λ e. fresh_together (h.makes.accepted e)) h.makes.refused)
call_together (Report r) a t h =
    rw h.reply (by_number (Report r) h.number t (λ e. report_together t (report_late h.steps e) (h.steps.accepted e)) h.steps.refused)
call_together (Drop id minute) a t h =
    rw h.reply (by_number (Drop id minute) h.number t (λ e. drop_together t (drop_late h.steps e) (h.steps.accepted e)) h.steps.refused)
call_together (Read cells bytes) a t h = rw h.reply (by_number (Read cells bytes) (number_of h.outcome) t (λ e. read_together (h.reads.accepted e)) h.reads.refused)
call_together (Window q list) a t h = by_number (Window q list) (told a) t (λ e. rw h.unchanged t) (λ n. h.unchanged)
call_together (Moving q list) a t h = by_number (Moving q list) (told a) t (λ e. rw h.unchanged t) (λ n. h.unchanged)
call_together Open a t h = by_number Open (told a) t (λ e. rw h.unchanged t) (λ n. h.unchanged)
call_together (Leaf last) a t h = by_number (Leaf last) (told a) t (λ e. rw h.unchanged t) (λ n. h.unchanged)
call_together (Write bytes) a t h = by_number (Write bytes) (told a) t (λ e. rw h.unchanged t) (λ n. h.unchanged)
call_together (Chart bytes) a t h = by_number (Chart bytes) (told a) t (λ e. rw h.unchanged t) (λ n. h.unchanged)

-- ---- the size, in the same way
same_size : {w v : List ℤ} → v ≡ w → Sized w v (capacity_word w)
same_size e = record { as_long = ap length e; capacity_is = ap capacity_word e }

step_size : {w v : List ℤ} {minute : ℤ} {L : Cell → Type 0} → Step w v minute L → Sized w v (capacity_word w)
step_size s = record { as_long = s.as_long; capacity_is = s.capacity_is }

size_by : {w v : List ℤ} (c : Call) (n : ℕ) → (n ≡ 0 → Sized w v (accepted_capacity (capacity_word w) c)) → ((n ≡ 0 → ⊥) → v ≡ w) → Sized w v (capacity_after (capacity_word w) c n)
size_by c zero done refused = done refl
size_by c (suc n) done refused = same_size (refused (not_zero n))

pub call_size : {w : List ℤ} (c : Call) (a : Reply) {v : List ℤ} → Happens w c a v → Sized w v (capacity_after (capacity_word w) c (told a))
call_size (Fresh cells) a h =
    rw h.reply (size_by (Fresh cells) h.number (λ e. let f = h.makes.accepted e in record { as_long = f.as_long; capacity_is = f.capacity_is }) h.makes.refused)
call_size (Report r) a h = rw h.reply (size_by (Report r) h.number (λ e. step_size (h.steps.accepted e)) h.steps.refused)
call_size (Drop id minute) a h = rw h.reply (size_by (Drop id minute) h.number (λ e. step_size (h.steps.accepted e)) h.steps.refused)
call_size (Read cells bytes) a h =
    rw h.reply
    (size_by (Read cells bytes) (number_of h.outcome) (λ e. let r = h.reads.accepted e in record { as_long = r.as_long; capacity_is = r.capacity_is }) h.reads.refused)
call_size (Window q list) a h = size_by (Window q list) (told a) (λ e. same_size h.unchanged) (λ n. h.unchanged)
call_size (Moving q list) a h = size_by (Moving q list) (told a) (λ e. same_size h.unchanged) (λ n. h.unchanged)
call_size Open a h = size_by Open (told a) (λ e. same_size h.unchanged) (λ n. h.unchanged)
call_size (Leaf last) a h = size_by (Leaf last) (told a) (λ e. same_size h.unchanged) (λ n. h.unchanged)
call_size (Write bytes) a h = size_by (Write bytes) (told a) (λ e. same_size h.unchanged) (λ n. h.unchanged)
call_size (Chart bytes) a h = size_by (Chart bytes) (told a) (λ e. same_size h.unchanged) (λ n. h.unchanged)

pub run_length : {w : List ℤ} {calls : List Call} {replies : List Reply} {u : List ℤ} → Run w calls replies u → length u ≡ length w
run_length no_call = refl
run_length (one_call {c} {a} h run) = run_length run ∙ (call_size c a h).as_long
