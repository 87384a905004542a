-- A leafing over a sound table ends, and visits each live cell above the first identifier once, in rising order.
use Rattle.std.specs.Prelude.{◌≡◌, refl, ◌⊎◌, List, [], ◌∷◌, map, ℕ, zero, suc, ◌<◌, ℤ, pos, ◌≤ℤ◌, ◌<ℤ◌, Option, Some, None}
use Rattle.std.proofs.Common.{sym, ap, subst, inl, inr, ⊎_elim, not-suc-le-zero, arith}
use mathlib.Core.List.Memᴰ
use Rattle.std.specs.Int.Signed.{lt_z_yes, <ℤ-≤ℤ_trans, clash_ℤ}
use Rattle.whole.specs.Lists.{◌∈◌}
use Rattle.whole.specs.Laws.Order.{<ℤ→≤ℤ, ≤ℤ-or-<ℤ, ≤ℤ_antisym}
use Rattle.whole.specs.Rising.{Rising, rising_one, rising_more}
use Rattle.whole.specs.Laws.Rising.{rising_tail}
use Rattle.track.specs.Life.{identifier, LivesAt}
use Rattle.track.specs.Laws.Life.{lives_decided}
use Rattle.track.specs.declared.cell.Cell.{Cell}
use Rattle.table.specs.Header.{clock}
use Rattle.table.specs.Sound.{Sound, Live, held}
use Rattle.table.specs.Laws.SoundBy.{held_in}
use Rattle.leafing.specs.NextLive.{NextLive, Steps}
use Rattle.leafing.specs.Laws.NextLive.{steps_sound, steps_fixed, live_same, one_not_none}
use Rattle.leafing.specs.Leafed.{Leafed, no_more, one_more, LiveCells}
use Rattle.leafing.specs.Inner.Search.{Extends}
use Rattle.leafing.specs.Inner.CellsLeft.{count_above}
use Rattle.leafing.specs.Laws.CellsLeft.{left_less}
use Rattle.leafing.specs.Laws.Search.{none_yet, live_of, extends_none, extends_then, extends_passed, extends_first, extends_kept, extends_lower}
use Rattle.leafing.specs.declared.search.Sought.{Sought}

-- ---- there is one list: the steps are fixed
same_one : {c d : Cell} → Some c ≡ Some d → c ≡ d
same_one {c} {d} e = ap cell e
  where
    cell : Option Cell → Cell
    cell (Some b) = b
    cell None = c

pub leafed_fixed : {w : List ℤ} {last : ℤ} {cells cells' : List Cell} → Leafed w last cells → Leafed w last cells' → cells ≡ cells'
leafed_fixed (no_more p) (no_more q) = refl
leafed_fixed (no_more p) (one_more {c} q rest) = absurd (one_not_none (sym (steps_fixed None (Some c) p q)))
leafed_fixed (one_more {c} p rest) (no_more q) = absurd (one_not_none (steps_fixed (Some c) None p q))
leafed_fixed {w} (one_more {c} {cells} p rest) (one_more {c = d} {cells = cells'} q rest') =
    let e = same_one (steps_fixed (Some c) (Some d) p q) in
    let r = leafed_fixed rest (subst (λ (b : Cell). Leafed w b.id cells') (sym e) rest') in
    cc

-- ---- a step takes the first cell off what is left
pub leafed_first : {w : List ℤ} {last : ℤ} {rest : List Cell} {c : Cell} → Leafed w last rest → Steps w last (Some c)
    → (later : List Cell) × (rest ≡ c ∷ later) × Leafed w c.id later
leafed_first {c} (no_more p) q = absurd (one_not_none (steps_fixed (Some c) None q p))
leafed_first {w} {c} (one_more {c = d} {cells} p rest) q =
    let e = same_one (steps_fixed (Some d) (Some c) p q) in
    (cells, ap {B = List Cell} (λ b. b ∷ cells) e, subst (λ (b : Cell). Leafed w b.id cells) e rest)

pub leafed_none : {w : List ℤ} {last : ℤ} {rest : List Cell} → Leafed w last rest → Steps w last None → rest ≡ []
leafed_none l p = leafed_fixed l (no_more p)

-- ---- what it visits
module _ {w : List ℤ} (sound : Sound w) where
  pub leafed_rises : {last : ℤ} {cells : List Cell} → Leafed w last cells → Rising ◌<ℤ◌ (last ∷ map identifier cells)
  leafed_rises (no_more p) = rising_one
  leafed_rises (one_more p rest) = rising_more (p.sound sound).above (leafed_rises rest)

  pub leafed_only : {last : ℤ} {cells : List Cell} → Leafed w last cells → (c : Cell) → c ∈ cells → Live w c
  leafed_only (no_more p) c m = absurd (Memᴰ.not-nil m)
  leafed_only (one_more {c = d} p rest) c m =
      ⊎_elim (λ (e : c ≡ d). rw e (p.sound sound).is_one) (λ n. leafed_only rest c n) (Memᴰ.cases_cons m)

  pub leafed_all : {last : ℤ} {cells : List Cell} → Leafed w last cells → (c : Cell) → Live w c → last <ℤ c.id → c ∈ cells
  leafed_all (no_more p) c live up = absurd (p.sound sound c live up)
  leafed_all (one_more {c = d} {cells} p rest) c live up = by (≤ℤ-or-<ℤ c.id d.id) (λ h. leafed_all rest c live h)
    where
      by : (c.id ≤ℤ d.id) ⊎ (d.id <ℤ c.id) → (d.id <ℤ c.id → c ∈ cells) → c ∈ d ∷ cells
      by (inl le) later =
          let n = p.sound sound in
          Memᴰ.head (live_same sound live n.is_one (≤ℤ_antisym c.id d.id le (n.least c live up)))
      by (inr lt) later = Memᴰ.tail (later lt)

  -- from the opening on: all live cells
  pub leafed_live : {cells : List Cell} → Leafed w (pos 0) cells → LiveCells w cells
  leafed_live l = record {
    rising = rising_tail (leafed_rises l);
    only = leafed_only l;
    all = λ c live. leafed_all l c live (<ℤ-≤ℤ_trans (lt_z_yes tt) (held_in sound live.is_held).identifier.from);
  }

-- ---- it ends: each step leaves fewer cells above the identifier. There is a next cell, or none
one_extends : (s : Sought) (c : Cell) (best : Option Cell) → (r : Option Cell) × Extends s (c ∷ []) best r
one_extends s c best = by (lives_decided s.clock c) (≤ℤ-or-<ℤ c.id s.last)
  where
    wanted : LivesAt s.clock c → s.last <ℤ c.id → (b : Option Cell) → best ≡ b → (r : Option Cell) × Extends s (c ∷ []) best r
    wanted life up None e = (Some c, extends_first s c life up best e)
    wanted life up (Some b) e =
        ⊎_elim (λ le. (Some b, extends_kept s c life up b best e le)) (λ lt. (Some c, extends_lower s c life up b best e (<ℤ→≤ℤ lt))) (≤ℤ-or-<ℤ b.id c.id)

    by : Dec (LivesAt s.clock c) → (c.id ≤ℤ s.last) ⊎ (s.last <ℤ c.id) → (r : Option Cell) × Extends s (c ∷ []) best r
    by (no expired) k = (best, extends_passed s c best (λ life up. expired life))
    by (yes life) (inl low) = (best, extends_passed s c best (λ life up. clash_ℤ up low))
    by (yes life) (inr up) = wanted life up best refl

all_extend : (s : Sought) (cells : List Cell) (best : Option Cell) → (r : Option Cell) × Extends s cells best r
all_extend s [] best = (best, extends_none)
all_extend s (c ∷ cells) best =
    let one = one_extends s c best in
    let rest = all_extend s cells one.0 in
    (rest.0, extends_then one.1 rest.1)

module _ {w : List ℤ} (sound : Sound w) where
  next_exists : (last : ℤ) → (r : Option Cell) × NextLive w last r
  next_exists last =
      let s : Sought = record { clock = clock w; last = last } in
      let r = all_extend s (held w) None in
      (r.0, live_of w last r.0 (r.1.extends [] (none_yet s)))

  leafed_within : (n : ℕ) (last : ℤ) → count_above last (held w) < n → (cells : List Cell) × Leafed w last cells
  leafed_within zero last lt = absurd (not-suc-le-zero lt)
  leafed_within (suc n) last lt = by (next_exists last) (λ k. leafed_within n k)
    where
      by : (r : Option Cell) × NextLive w last r → ((k : ℤ) → count_above k (held w) < n → (cells : List Cell) × Leafed w k cells) → (cells : List Cell) × Leafed w last cells
      by (None, next) again = ([], no_more (steps_sound sound last None next))
      by (Some c, next) again =
          let rest = again c.id (omega (arith, left_less {w = w} {last = last} next)) in
          (c ∷ rest.0, one_more (steps_sound sound last (Some c) next) rest.1)

  pub leafed_exists : (last : ℤ) → (cells : List Cell) × Leafed w last cells
  leafed_exists last = leafed_within (suc (count_above last (held w))) last (omega arith)
