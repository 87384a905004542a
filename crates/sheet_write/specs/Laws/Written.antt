-- The ways through the writing of a sheet, and that its answer is fixed; what any other writing of a table has in common with it.
use Rattle.std.specs.Prelude.{◌≡◌, refl, ◌↔◌, List, ℕ, ◌≤◌, ◌<◌, ℤ, length, Result, Ok, Err}
use Rattle.std.proofs.Common.{sym, ◌∙◌, inl, inr, arith}
use Rattle.std.proofs.Math.Path.{ap}
use Rattle.std.proofs.Math.Decide.{ℕ_discrete, dec_le}
use Rattle.words.specs.Parts.{put}
use Rattle.track.specs.Refusals.{First, number_of}
use Rattle.track.specs.Laws.Refusals.{same_answer, first_as, first_fixed, not_zero}
use Rattle.track.specs.declared.cell.Cell.{Cell}
use Rattle.track.specs.declared.refusal.Refusal.TheVariants.{NotSound, ShortBytes}
use Rattle.table.specs.Header.{clock, greatest_capacity}
use Rattle.table.specs.Sound.{Sound, Live}
use Rattle.sheet.specs.Sheet.{total_for}
use Rattle.leafing.specs.Leafed.{LiveCells}
use Rattle.leafing.specs.Laws.Leafed.{leafed_live}
use Rattle.leafing.specs.Laws.LiveCells.{live_same_list, live_as, live_few}
use Rattle.sheet_write.specs.Written.{written_total, table_reasons, WritesTable, LongerThan, write_reasons, Writes, WritesSheet}
use Rattle.sheet_write.specs.Inner.Passes.{CellsCounted, PutsSheet}
use Rattle.track.specs.declared.refusal.Refusal.{Refusal}

-- ---- what every writing of a table has in common, whatever it writes
module _ {w : List ℤ} {Short : Type 0} {Done : ℕ → List ℕ → Type 0} {bytes : List ℕ} where
  pub table_unsound : (Sound w → ⊥) → WritesTable w Short Done bytes (Err NotSound) bytes
  table_unsound n = record { refusal = inl (n, refl); accepted = λ e. not_zero 0 e; refused = λ e. refl }

  pub table_short : Sound w → Short → WritesTable w Short Done bytes (Err ShortBytes) bytes
  table_short sound s = record { refusal = inr (λ f. f sound, inl (s, refl)); accepted = λ e. not_zero 12 e; refused = λ e. refl }

  pub table_written : {total : ℕ} {bytes' : List ℕ} → Sound w → (Short → ⊥) → Done total bytes' → WritesTable w Short Done bytes (Ok total) bytes'
  table_written sound enough done = record { refusal = inr (λ f. f sound, inr (enough, refl)); accepted = λ e. done; refused = λ e. absurd (e refl) }

-- an answer is known by its number and its total
answer_fixed : (r s : Result ℕ Refusal) → number_of r ≡ number_of s → written_total r ≡ written_total s → r ≡ s
answer_fixed r s e f = same_answer r s e (λ m n p q. sym (ap written_total p) ∙ f ∙ ap written_total q)

pub refused_total : (r : Result ℕ Refusal) → (number_of r ≡ 0 → ⊥) → written_total r ≡ 0
refused_total (Ok n) ne = absurd (ne refl)
refused_total (Err why) ne = refl

-- two tables that agree in being sound and in having too little room, and are written alike, have the same answer and bytes
pub answer_same : {v w : List ℤ} {A B : Type 0} {W X : ℕ → List ℕ → Type 0} {bytes : List ℕ} {r s : Result ℕ Refusal} {a b : List ℕ} → Sound v ↔ Sound w → A ↔ B
    → ((m n : ℕ) (a b : List ℕ) → W m a → X n b → (m ≡ n) × (a ≡ b)) → WritesTable v A W bytes r a → WritesTable w B X bytes s b → (r ≡ s) × (a ≡ b)
answer_same {v} {w} {A} {B} {r} {s} {a} {b} same-sound same-short same-written p q = by (ℕ_discrete (number_of s) 0)
  where
    number_same : number_of r ≡ number_of s
    number_same =
        first_fixed (table_reasons w B) (number_of r) (number_of s)
        (first_as (table_reasons v A) (table_reasons w B) (number_of r)
        (refl, (λ n x. n (same-sound.1 x), λ n x. n (same-sound.0 x)), (refl, same-short, tt))
        p.refusal)
        q.refusal

    by : Dec (number_of s ≡ 0) → (r ≡ s) × (a ≡ b)
    by (yes e) =
        let same = same-written (written_total r) (written_total s) a b (p.accepted (number_same ∙ e)) (q.accepted e) in
        (answer_fixed r s number_same same.0, same.1)
    by (no ne) =
        let ne' : number_of r ≡ 0 → ⊥ = λ e. ne (sym number_same ∙ e) in
        (answer_fixed r s number_same (refused_total r ne' ∙ sym (refused_total s ne)), p.refused ne' ∙ sym (q.refused ne))

-- a bound of what a sound table's total may be holds of every answer's
pub answer_few : {w : List ℤ} {A : Type 0} {W : ℕ → List ℕ → Type 0} {bytes : List ℕ} {r : Result ℕ Refusal} {bytes' : List ℕ} {most : ℕ} → WritesTable w A W bytes r bytes'
    → (Sound w → (n : ℕ) (a : List ℕ) → W n a → n ≤ most) → written_total r ≤ most
answer_few {w} {A} {r} {bytes'} {most} p few = by (ℕ_discrete (number_of r) 0) (dec_le (written_total r) most)
  where
    not_unsound : number_of r ≡ 0 → First (table_reasons w A) (number_of r) → (Sound w → ⊥) → ⊥
    not_unsound e (inl h) u = not_zero 0 (sym h.1 ∙ e)
    not_unsound e (inr h) u = h.0 u

    by : Dec (number_of r ≡ 0) → Dec (written_total r ≤ most) → written_total r ≤ most
    by e (yes le) = le
    by (yes e) (no more) = absurd (not_unsound e p.refusal (λ s. more (few s (written_total r) bytes' (p.accepted e))))
    by (no ne) (no more) = omega (arith, refused_total r ne)

-- ---- the ways through the code
-- a sheet that finds room is the table's, so none is longer
sheet_fits : {w : List ℤ} {cells : List Cell} {n : ℕ} → LiveCells w cells → total_for (length cells) ≤ n → LongerThan n w → ⊥
sheet_fits live room l =
    let same = live_same_list (λ c. (λ x. x, λ x. x)) live l.live in
    omega (arith, l.longer, ap length same)

module _ {w : List ℤ} {bytes : List ℕ} {n total : ℕ} (sound : Sound w) (is : total ≡ total_for n) where
  pub writes_short : CellsCounted w n → length bytes < total → WritesSheet w bytes (Err ShortBytes) bytes
  writes_short c lt = table_short sound (record { cells = c.cells; live = leafed_live sound c.leafed; longer = omega (arith, c.count) })

  pub writes_all : {bytes' : List ℕ} → total ≤ length bytes → PutsSheet w bytes n bytes' → WritesSheet w bytes (Ok total) bytes'
  unfolding put
  writes_all le p =
      let live = leafed_live sound p.leafed in
      table_written sound (sheet_fits live (omega (arith, p.count)))
      (record { cells = p.cells; live = live; total_is = is ∙ ap total_for p.count; written = rw is p.is })

-- ---- a sound table whose sheet finds room is not refused
pub write_accepted : {w : List ℤ} {bytes : List ℕ} {r : Result ℕ Refusal} {bytes' : List ℕ} {cells : List Cell} → Sound w → LiveCells w cells → total_for (length cells) ≤ length bytes
    → WritesSheet w bytes r bytes' → number_of r ≡ 0
write_accepted {w} {bytes} {r} {cells} sound live room p =
    first_fixed (write_reasons w bytes) (number_of r) 0 p.refusal (inr (λ f. f sound, inr (sheet_fits live room, refl)))

-- ---- the total is small
pub written_few : {w : List ℤ} {bytes : List ℕ} (r : Result ℕ Refusal) {bytes' : List ℕ} → WritesSheet w bytes r bytes' → written_total r ≤ total_for greatest_capacity
written_few r p = answer_few p (λ sound n a f. omega (arith, f.total_is, live_few sound f.live))

-- ---- two tables
-- the sheet depends on the clock and the live cells alone: two tables that agree in these, and in being sound, are written with the same number, total and bytes.
-- For one table it says that the answer and the bytes are fixed
module _ {v w : List ℤ} (same_clock : clock v ≡ clock w) (same_live : (c : Cell) → Live v c ↔ Live w c) (same-sound : Sound v ↔ Sound w) where
  longer_same : {n : ℕ} → LongerThan n v ↔ LongerThan n w
  longer_same = (
    λ l. record { cells = l.cells; live = live_as same_live l.live; longer = l.longer },
    λ l. record { cells = l.cells; live = live_as (λ c. ((same_live c).1, (same_live c).0)) l.live; longer = l.longer },
  )

  pub written_same : {bytes : List ℕ} {r s : Result ℕ Refusal} {a b : List ℕ} → WritesSheet v bytes r a → WritesSheet w bytes s b → (r ≡ s) × (a ≡ b)
  written_same {bytes} p q = answer_same same-sound longer_same writes_same p q
    where
      writes_same : (m n : ℕ) (a b : List ℕ) → Writes v bytes m a → Writes w bytes n b → (m ≡ n) × (a ≡ b)
      writes_same m n a b f g =
          let cells : f.cells ≡ g.cells = live_same_list same_live f.live g.live in
          let total : m ≡ n = f.total_is ∙ ap (λ (l : List Cell). total_for (length l)) cells ∙ sym g.total_is in
          (total, f.written ∙ rw (same_clock, cells, total) (sym g.written))
