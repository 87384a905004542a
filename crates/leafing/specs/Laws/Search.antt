-- The search for the next cell: what becomes of the best by no cell, by one and by several, one law for each way through the walk, and that its end is the next live cell.
use Rattle.std.specs.Prelude.{◌≡◌, refl, ◌⊎◌, ℕ, zero, suc, ◌-◌, ℤ, ◌≤ℤ◌, ◌<ℤ◌, Option, Some, None}
use Rattle.std.proofs.Common.{sym, ap, ◌∙◌, subst, inl, inr, ⊎_elim, sub-one}
use mathlib.Core.List.Memᴰ
use mathlib.Core.List.{List, [], ◌∷◌, ◌++◌, map, map-append, flat_map, append_assoc, append-nil}
use Rattle.std.specs.Int.Signed.{≤ℤ_refl}
use Rattle.whole.specs.Lists.{◌∈◌}
use Rattle.whole.specs.Laws.Order.{≤ℤ_trans}
use Rattle.track.specs.Life.{LivesAt}
use Rattle.track.specs.Laws.Refusals.{not_zero}
use Rattle.track.specs.declared.cell.Cell.{Cell}
use Rattle.node.specs.Entry.{Entry, cell_of, child_of}
use Rattle.table.specs.Header.{clock, root, height, entries_at}
use Rattle.table.specs.SoundTree.{Nodes}
use Rattle.table.specs.Inner.Scan.{leaves_in}
use Rattle.table.specs.Laws.Scan.{leaves_in_lem, leaves_cons}
use Rattle.table.specs.Sound.{Live, held}
use Rattle.leafing.specs.NextLive.{NextOf, NextLive}
use Rattle.leafing.specs.Inner.Search.{Alive, Best, Extends, cells_in, Looks}
use Rattle.leafing.specs.declared.search.Sought.{Sought}

-- the same cells above the last, said in another way
pub next_as : (P Q : Cell → Type 0) (last : ℤ) → ((c : Cell) → P c → Q c) → ((c : Cell) → Q c → last <ℤ c.id → P c) → (r : Option Cell) → NextOf P last r → NextOf Q last r
next_as P Q last to from (Some c) n = record { is_one = to c n.is_one; above = n.above; least = λ d q up. n.least d (from d q up) up }
next_as P Q last to from None n = λ c q up. n c (from c q up) up

-- ---- no cell more, and some cells after others
pub extends_none : {s : Sought} {best : Option Cell} → Extends s [] best best
extends_none {s} {best} = record { extends = λ seen b. subst (λ (l : List Cell). Best s l best) (sym (append-nil seen)) b }

pub extends_then : {s : Sought} {l m : List Cell} {best mid r : Option Cell} → Extends s l best mid → Extends s m mid r → Extends s (l ++ m) best r
extends_then {s} {l} {m} {r} f g = record { extends = λ seen b. subst (λ (k : List Cell). Best s k r) (append_assoc seen l m) (g.extends (seen ++ l) (f.extends seen b)) }

-- ---- one cell more
module _ (s : Sought) (c : Cell) where
  one_of : (seen : List Cell) {d : Cell} → d ∈ seen ++ (c ∷ []) → (d ∈ seen) ⊎ (d ≡ c)
  one_of seen m = ⊎_elim inl (λ n. inr (Memᴰ.eq_of_singleton n)) (Memᴰ.append_cases seen m)

  -- one that lives is one of those seen, or the new one
  alive_of : (seen : List Cell) {d : Cell} → Alive s.clock (seen ++ (c ∷ [])) d → (Alive s.clock seen d) ⊎ (d ≡ c)
  alive_of seen a = ⊎_elim (λ m. inl (record { is_in = m; in_life = a.in_life })) inr (one_of seen a.is_in)

  seen_still : (seen : List Cell) {d : Cell} → Alive s.clock seen d → Alive s.clock (seen ++ (c ∷ [])) d
  seen_still seen a = record { is_in = Memᴰ.append_left (c ∷ []) a.is_in; in_life = a.in_life }

  new_one : (seen : List Cell) → LivesAt s.clock c → Alive s.clock (seen ++ (c ∷ [])) c
  new_one seen life = record { is_in = Memᴰ.append_right seen (Memᴰ.head refl); in_life = life }

  -- a cell that is expired or not above the last is passed over
  pub extends_passed : (best : Option Cell) → (LivesAt s.clock c → s.last <ℤ c.id → ⊥) → Extends s (c ∷ []) best best
  extends_passed best out = record { extends = λ seen b. next_as _ _ s.last (λ d. seen_still seen) (λ d a up. was seen a up) best b }
    where
      was : (seen : List Cell) {d : Cell} → Alive s.clock (seen ++ (c ∷ [])) d → s.last <ℤ d.id → Alive s.clock seen d
      was seen {d} a up = ⊎_elim (λ m. m) (λ (e : d ≡ c). absurd (out (rw e at a.in_life) (rw e at up))) (alive_of seen a)

  module _ (life : LivesAt s.clock c) (up : s.last <ℤ c.id) where
    -- the first one
    pub extends_first : (best : Option Cell) → best ≡ None → Extends s (c ∷ []) best (Some c)
    extends_first best e = rw e (record { extends = λ seen b. record { is_one = new_one seen life; above = up; least = λ d a above. least seen b a above } })
      where
        least : (seen : List Cell) → Best s seen None → {d : Cell} → Alive s.clock (seen ++ (c ∷ [])) d → s.last <ℤ d.id → c.id ≤ℤ d.id
        least seen b {d} a above = ⊎_elim (λ m. absurd (b d m above)) (λ (e : d ≡ c). rw e (≤ℤ_refl c.id)) (alive_of seen a)

    module _ (b : Cell) (best : Option Cell) (e : best ≡ Some b) where
      -- one that is no lower
      pub extends_kept : b.id ≤ℤ c.id → Extends s (c ∷ []) best (Some b)
      extends_kept le = rw e (record { extends = λ seen n. record { is_one = seen_still seen n.is_one; above = n.above; least = λ d a above. least seen n a above } })
        where
          least : (seen : List Cell) → Best s seen (Some b) → {d : Cell} → Alive s.clock (seen ++ (c ∷ [])) d → s.last <ℤ d.id → b.id ≤ℤ d.id
          least seen n {d} a above = ⊎_elim (λ m. n.least d m above) (λ (e : d ≡ c). rw e le) (alive_of seen a)

      -- one that is lower
      pub extends_lower : c.id ≤ℤ b.id → Extends s (c ∷ []) best (Some c)
      extends_lower le = rw e (record { extends = λ seen n. record { is_one = new_one seen life; above = up; least = λ d a above. least seen n a above } })
        where
          least : (seen : List Cell) → Best s seen (Some b) → {d : Cell} → Alive s.clock (seen ++ (c ∷ [])) d → s.last <ℤ d.id → c.id ≤ℤ d.id
          least seen n {d} a above = ⊎_elim (λ m. ≤ℤ_trans le (n.least d m above)) (λ (e : d ≡ c). rw e (≤ℤ_refl c.id)) (alive_of seen a)

-- ---- the ways through the walk
none_in : (N : Nodes) (h : ℕ) → cells_in N h [] ≡ []
unfolding leaves_in flat_map
none_in N zero = refl
none_in N (suc h) = refl

cells_leaf : (N : Nodes) (h : ℕ) (d : Entry) (ds : List Entry) → h ≡ 0 → cells_in N h (d ∷ ds) ≡ (cell_of d ∷ []) ++ cells_in N h ds
unfolding leaves_in
cells_leaf N zero d ds z = refl
cells_leaf N (suc h) d ds z = not_zero h z

cells_inner : (N : Nodes) (h : ℕ) (d : Entry) (ds : List Entry) → (h ≡ 0 → ⊥) → cells_in N h (d ∷ ds) ≡ cells_in N (h - 1) (N (child_of d)) ++ cells_in N h ds
cells_inner N zero d ds z = absurd (z refl)
cells_inner N (suc h) d ds z =
    rw (sub-one (suc h))
    (ap (map cell_of) (leaves_cons N h d ds) ∙ map-append cell_of (leaves_in N h (N (child_of d))) (leaves_in N (suc h) ds))

module _ {N : Nodes} {s : Sought} {h : ℕ} {es : List Entry} {best : Option Cell} where
  pub looked_none : es ≡ [] → Looks N s h es best best
  looked_none e = record { looks = rw (e, none_in N h) extends_none }

  module _ {d : Entry} {ds : List Entry} (e : es ≡ d ∷ ds) {mid r : Option Cell} where
    pub looked_cell : h ≡ 0 → Extends s (cell_of d ∷ []) best mid → Looks N s h ds mid r → Looks N s h es best r
    looked_cell z f g = record { looks = rw (e, cells_leaf N h d ds z) (extends_then f g.looks) }

    pub looked_child : {j : ℕ} → j ≡ child_of d → (h ≡ 0 → ⊥) → Looks N s (h - 1) (N j) best mid → Looks N s h ds mid r → Looks N s h es best r
    looked_child {j} is z f g = record { looks = rw (e, cells_inner N h d ds z) (extends_then (rw is at f.looks) g.looks) }

-- ---- from the root of a sound table
all_held : (w : List ℤ) → cells_in (entries_at w) (height w) (entries_at w (root w)) ≡ held w
all_held w = ap (map cell_of) (sym (leaves_in_lem (entries_at w) (height w) (root w)))

-- nothing is found before the first cell
pub none_yet : (s : Sought) → Best s [] None
none_yet s c a up = Memᴰ.not-nil a.is_in

-- the best of the held cells is the next live cell
pub live_of : (w : List ℤ) (last : ℤ) (r : Option Cell) → NextOf (Alive (clock w) (held w)) last r → NextLive w last r
live_of w last r b =
    next_as (Alive (clock w) (held w)) (Live w) last (λ c a. record { is_held = a.is_in; in_life = a.in_life }) (λ c l up. record { is_in = l.is_held; in_life = l.in_life }) r b

pub looked_all : (w : List ℤ) (last : ℤ) {s : Sought} (r : Option Cell) → s.clock ≡ clock w → s.last ≡ last
    → Looks (entries_at w) s (height w) (entries_at w (root w)) None r → NextLive w last r
looked_all w last {s} r ec el x = live_of w last r (rw (ec, el, all_held w) at (x.looks.extends [] (none_yet s)))
