-- One pass over a node's entries: its steps, and that the hull of the entries and their greatest expiry are what passes gather.
use Rattle.std.specs.Prelude.{◌≡◌, refl, Bool, true, false, cond, List, [], ◌∷◌, map, ℕ, ◌+◌, ◌%◌, ◌≤◌, ◌<◌, eqb, ℤ, pos, ◌+ℤ◌, ◌-ℤ◌, ◌*ℤ◌, get_or}
use Rattle.std.proofs.Common.{sym, ap, ◌∙◌, arith, lt-ltb, le-ltb, eq-eqb, ne_eqb}
use Rattle.std.proofs.lemmas.Simd.{map-map}
use Rattle.std.specs.Int.{int_max}
use Rattle.std.specs.Int.Signed.{lt_z, <ℤ_irrefl}
use Rattle.std.proofs.Math.ListN.{drop}
use Rattle.whole.specs.Laws.Difference.{each, difs}
use Rattle.whole.specs.Laws.Order.{<ℤ_trans, ≤ℤ_antisym, lt_z_true, lt_z_false}
use Rattle.whole.specs.Within.{Within}
use Rattle.words.specs.Layout.{entry_at}
use Rattle.track.specs.Meets.{Row}
use Rattle.track.specs.Hull.{lesser, greater, picked}
use Rattle.node.specs.Entry.{Entry, entry_count, entries_of, until_of}
use Rattle.node.specs.Laws.Entry.{entries_from, entries_next, entries_end}
use Rattle.node.specs.WorkedOut.{hull_on, latest_of}
use Rattle.node.specs.Inner.Pass.{column_at, outer, pass_over, extreme_of}

-- ---- a row is worked out by four passes, an expiry by one
no_edge : (minute : ℤ) → pos 0 ≡ pos 0 -ℤ pos 0 *ℤ minute
no_edge = each _ λ _ _. simp difs (omega arith)

-- edges at the stamp, kept at minute 0, and velocities
abbrev pub from_columns : ℤ → (ℕ → ℤ) → Row
from_columns stamp over = (over 0 -ℤ over 2 *ℤ stamp) ∷ (over 1 -ℤ over 3 *ℤ stamp) ∷ over 2 ∷ over 3 ∷ []

pub hull_passes : (leaf : Bool) (axis : ℕ) (stamp : ℤ) (es : List Entry)
    → from_columns stamp (λ column. extreme_of leaf axis column stamp es) ≡ hull_on leaf axis stamp es
unfolding hull_on pass_over outer column_at
hull_passes leaf axis stamp [] = rw (← no_edge stamp)
hull_passes leaf axis stamp (e ∷ es) = simp map-map

pub latest_pass : (leaf : Bool) (es : List Entry) → pass_over greater (until_of leaf) es ≡ latest_of leaf es
unfolding pass_over latest_of
latest_pass leaf [] = refl
latest_pass leaf (e ∷ es) = refl

-- ---- a pass over the first k entries of a node has left m
pub record EntriesPassed (pick : ℤ → ℤ → ℤ) (value : Entry → ℤ) (node : List ℤ) (k : ℕ) (m : ℤ) : Type 0 where
  pub before : k ≤ entry_count node
  pub rest : picked pick m (map value (drop k (entries_of node))) ≡ pass_over pick value (entries_of node)

pub passed_none : (pick : ℤ → ℤ → ℤ) (value : Entry → ℤ) (node : List ℤ) → entry_count node ≡ 0 → pos 0 ≡ pass_over pick value (entries_of node)
unfolding pass_over
passed_none pick value node none =
    let e : drop 0 (entries_of node) ≡ [] = rw none at (entries_end node) in
    rw e

module _ {pick : ℤ → ℤ → ℤ} {value : Entry → ℤ} {node : List ℤ} {m : ℤ} where
  pub passed_first : 0 < entry_count node → m ≡ value (entry_at node 0) → EntriesPassed pick value node 1 m
  unfolding pass_over
  passed_first some e =
      let all : entries_of node ≡ entry_at node 0 ∷ drop 1 (entries_of node) = entries_from node 0 some in
      record { before = some; rest = rw e (ap (pass_over pick value) (sym all)) }

  pub passed_next : {k : ℕ} {n : ℤ} → EntriesPassed pick value node k m → k < entry_count node → n ≡ pick m (value (entry_at node k)) → EntriesPassed pick value node (k + 1) n
  unfolding picked
  passed_next {k} h low e = record { before = omega arith; rest = rw e (rw (entries_next node k low) at h.rest) }

  pub passed_all : {k : ℕ} → EntriesPassed pick value node k m → entry_count node ≤ k → m ≡ pass_over pick value (entries_of node)
  unfolding picked
  passed_all {k} h end =
      let e : k ≡ entry_count node = omega (arith, h.before) in
      rw (e, entries_end node) at h.rest

-- ---- the ways through the code
module _ (column : ℕ) (minute : ℤ) (r : Row) where
  pub column_edge : column < 2 → get_or r column (pos 0) +ℤ get_or r (column + 2) (pos 0) *ℤ minute ≡ column_at column minute r
  unfolding column_at
  column_edge h = rw (lt-ltb column 2 h)

  pub column_velocity : 2 ≤ column → get_or r column (pos 0) ≡ column_at column minute r
  unfolding column_at
  column_velocity h = rw (le-ltb column 2 h)

module _ (column : ℕ) (a b : ℤ) where
  pub outer_low : column % 2 ≡ 0 → cond (lt_z b a) b a ≡ outer column a b
  unfolding outer lesser
  outer_low e = rw (eq-eqb (column % 2) 0 e)

  pub outer_high : (column % 2 ≡ 0 → ⊥) → cond (lt_z a b) b a ≡ outer column a b
  unfolding outer greater
  outer_high ne = rw (ne_eqb (column % 2) 0 ne)

-- the machine's `max` of two numbers is the greater one; its `min` is the lesser one as it stands
pub max_is_greater : (a b : ℤ) → int_max a b ≡ greater a b
unfolding greater
max_is_greater a b = by (lt_z a b) (lt_z b a) refl refl
  where
    by : (up down : Bool) → lt_z a b ≡ up → lt_z b a ≡ down → cond down a b ≡ cond up b a
    by true true e f = absurd (<ℤ_irrefl {a = a} (<ℤ_trans {b = b} (lt_z_true e) (lt_z_true f)))
    by true false e f = refl
    by false true e f = refl
    by false false e f = ≤ℤ_antisym b a (lt_z_false e) (lt_z_false f)

pub max_is_outer : (column : ℕ) (a b : ℤ) → (column % 2 ≡ 0 → ⊥) → int_max a b ≡ outer column a b
unfolding greater
max_is_outer column a b ne = max_is_greater a b ∙ outer_high column a b ne

-- the outer one of two numbers is one of them
pub outer_in : {bound : ℕ} {a b : ℤ} (column : ℕ) → Within bound a → Within bound b → Within bound (outer column a b)
unfolding outer lesser greater
outer_in {bound} {a} {b} column h k = by (eqb (column % 2) 0)
  where
    either : (t : Bool) {x y : ℤ} → Within bound x → Within bound y → Within bound (cond t x y)
    either true p q = p
    either false p q = q

    by : (low : Bool) → Within bound (cond low lesser greater a b)
    by true = either (lt_z b a) k h
    by false = either (lt_z a b) k h
