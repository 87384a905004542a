-- Whether as many stay as there is room for, and whether a cell is there, told by the count of those that stay.
use Rattle.std.specs.Prelude.{◌≡◌, refl, Bool, true, false, ℕ, ◌+◌, ◌≤◌, ◌<◌, ℤ, pos, length}
use Rattle.std.proofs.Common.{sym, ap, subst, inl, inr, ⊎_elim, arith}
use mathlib.Core.List.Memᴰ
use mathlib.Core.List.{List, [], ◌∷◌, map}
use Rattle.std.proofs.Math.Decide.{dec_lt}
use Rattle.std.proofs.Math.ListN.{length-map}
use Rattle.std.specs.Int.Signed.{clash_ℤ, lt_z_yes}
use Rattle.whole.specs.Lists.{◌∈◌, ◌⊆◌, put_if, keep, NoRepeat, no_repeat_none, no_repeat_cons}
use Rattle.whole.specs.Laws.Lists.{keep_in, in_keep, no_repeat_head, no_repeat_tail, no_repeat_fits}
use Rattle.track.specs.Life.{identifier, LivesAt}
use Rattle.track.specs.declared.cell.Cell.{Cell}
use Rattle.node.specs.Entry.{Entry, cell_of}
use Rattle.table.specs.Header.{capacity, clock, height, root, entries_at}
use Rattle.table.specs.Sound.{Sound}
use Rattle.tree_laws.specs.Inner.Weights.{sum_over}
use Rattle.tree_laws.specs.Laws.Weights.{sum_none, sum_cons}
use Rattle.tree_laws.specs.Laws.Leaf.{leaf_in_range}
use Rattle.tree.specs.Inner.Holding.{leaves}
use Rattle.tree_laws.specs.Inner.Goes.{Goes}
use Rattle.tree_laws.specs.Laws.Goes.{living_stays, staying_lives, dec_goes}
use Rattle.tree.specs.Inner.Staying.{one_unless, stays}
use Rattle.tree.specs.Laws.Staying.{goes_none, stays_one, none_goes, one_stays, stays_most, few_stay}
use Rattle.tree.specs.Steps.{Stays, IsThere, NoRoom}
use Rattle.tree.specs.Inner.StayingCells.{many_stay}

-- ---- the entries that stay, as a list
abbrev is_no : {P : Type 0} → Dec P → Bool
is_no (yes p) = false
is_no (no n) = true

abbrev stay_test : ℤ → ℤ → Entry → Bool
stay_test minute id e = is_no (dec_goes minute id (cell_of e))

module _ {P : Type 0} where
  no_true : (d : Dec P) → is_no d ≡ true → P → ⊥
  no_true (yes p) e q = let z : ◌≡◌ {A = ℕ} 0 1 = cc in omega arith
  no_true (no n) e q = n q

  true_no : (d : Dec P) → (P → ⊥) → is_no d ≡ true
  true_no (yes p) n = absurd (n p)
  true_no (no m) n = refl

  length-put_if : (d : Dec P) (e : Entry) (l : List Entry) → length (put_if (is_no d) e l) ≡ one_unless d + length l
  length-put_if (yes p) e l = omega arith
  length-put_if (no n) e l = omega arith

many_stay_lem : (minute id : ℤ) (l : List Entry) → length (keep (stay_test minute id) l) ≡ sum_over (stays minute id) l
unfolding keep stays
many_stay_lem minute id [] = sym (sum_none (stays minute id))
many_stay_lem minute id (e ∷ l) =
    omega (arith, length-put_if (dec_goes minute id (cell_of e)) e (keep (stay_test minute id) l), many_stay_lem minute id l, sum_cons (stays minute id) e l)

-- their cells are told apart by identifier
cells_once : (test : Entry → Bool) (l : List Entry) → NoRepeat (map identifier (map cell_of l)) → NoRepeat (map cell_of (keep test l))
unfolding keep
cells_once test [] once = no_repeat_none
cells_once test (e ∷ l) once = by (test e) (cells_once test l (no_repeat_tail once))
  where
    new : cell_of e ∈ map cell_of (keep test l) → ⊥
    new m =
        let d = Memᴰ.of_map cell_of (keep test l) m in
        no_repeat_head once (rw (← ap identifier d.2) (Memᴰ.map identifier (Memᴰ.map cell_of (keep_in test l d.1).0)))

    by : (b : Bool) → NoRepeat (map cell_of (keep test l)) → NoRepeat (map cell_of (put_if b e (keep test l)))
    by true rest = no_repeat_cons new rest
    by false rest = rest

-- ---- sums of two weights
sum-differs : (φ ψ : Entry → ℕ) (l : List Entry) → sum_over φ l < sum_over ψ l → (x : Entry) × x ∈ l × (φ x < ψ x)
sum-differs φ ψ [] less = absurd (omega (arith, sum_none φ, sum_none ψ))
sum-differs φ ψ (e ∷ l) less = by (λ more. sum-differs φ ψ l more) (dec_lt (φ e) (ψ e))
  where
    by : (sum_over φ l < sum_over ψ l → (x : Entry) × x ∈ l × (φ x < ψ x)) → Dec (φ e < ψ e) → (x : Entry) × x ∈ e ∷ l × (φ x < ψ x)
    by rest (yes here) = (e, Memᴰ.head refl, here)
    by rest (no not-here) = let r = rest (omega (arith, sum_cons φ e l, sum_cons ψ e l)) in (r.0, Memᴰ.tail r.1, r.2)

sum_no_more : (φ ψ : Entry → ℕ) (l : List Entry) → ((x : Entry) → x ∈ l → φ x ≤ ψ x) → sum_over φ l ≤ sum_over ψ l
sum_no_more φ ψ [] each = omega (arith, sum_none φ, sum_none ψ)
sum_no_more φ ψ (e ∷ l) each = omega (arith, each e (Memᴰ.head refl), sum_no_more φ ψ l (λ x m. each x (Memᴰ.tail m)), sum_cons φ e l, sum_cons ψ e l)

sum_less : (φ ψ : Entry → ℕ) {x : Entry} {l : List Entry} → ((y : Entry) → y ∈ l → φ y ≤ ψ y) → x ∈ l → φ x < ψ x → sum_over φ l < sum_over ψ l
sum_less φ ψ {x} {l = []} each m less = absurd (Memᴰ.not-nil m)
sum_less φ ψ {x} {l = e ∷ l} each (Memᴰ.head q) less =
    omega (arith, rw q at less, sum_no_more φ ψ l (λ y m. each y (Memᴰ.tail m)), sum_cons φ e l, sum_cons ψ e l)
sum_less φ ψ {l = e ∷ l} each (Memᴰ.tail m) less =
    omega (arith, each e (Memᴰ.head refl), sum_less φ ψ (λ y n. each y (Memᴰ.tail n)) m less, sum_cons φ e l, sum_cons ψ e l)

-- ---- of a sound table
module _ {w : List ℤ} (s : Sound w) (minute id : ℤ) where
  keepers : List Entry
  keepers = keep (stay_test minute id) (leaves w)

  pub no_more_room : capacity w ≤ many_stay w minute id → NoRoom w minute id
  unfolding keepers
  no_more_room many = record {
    others = map cell_of keepers;
    once = cells_once (stay_test minute id) (leaves w) s.identifiers_once;
    each = each;
    full = omega (arith, length-map keepers cell_of, many_stay_lem minute id (leaves w), few_stay minute id (leaves w), length-map (leaves w) cell_of, s.few_cells);
  }
    where
      each : (c : Cell) → c ∈ map cell_of (keep (stay_test minute id) (leaves w)) → Stays w minute id c
      each c m =
          let d = Memᴰ.of_map cell_of (keep (stay_test minute id) (leaves w)) m in
          let k = keep_in (stay_test minute id) (leaves w) d.1 in
          let stay : Goes minute id c → ⊥ = rw d.2 at (no_true (dec_goes minute id (cell_of d.0)) k.1) in
          record { is_held = rw (← d.2) (Memᴰ.map cell_of k.0); lives = staying_lives c stay; other = λ e. stay (inr e) }

  pub more_room : many_stay w minute id < capacity w → NoRoom w minute id → ⊥
  unfolding keepers
  more_room few n = omega (arith, n.full, no_repeat_fits n.once inside, length-map keepers cell_of, many_stay_lem minute id (leaves w))
    where
      inside : n.others ⊆ map cell_of (keep (stay_test minute id) (leaves w))
      inside c m =
          let t = n.each c m in
          let d = Memᴰ.of_map cell_of (leaves w) t.is_held in
          let stay : Goes minute id (cell_of d.0) → ⊥ = λ g. living_stays c t.lives t.other (rw d.2 at g) in
          rw (← d.2) (Memᴰ.map cell_of (in_keep (stay_test minute id) d.1 (true_no (dec_goes minute id (cell_of d.0)) stay)))

  -- no cell has the identifier 0, so against it all that live stay
  not_zero : (x : Entry) → x ∈ leaves w → (cell_of x).id ≡ pos 0 → ⊥
  not_zero x m e =
      let is = (leaf_in_range (entries_at w) (capacity w) (clock w) (height w) (root w) s.tree x m).identifier in
      clash_ℤ (lt_z_yes tt) (rw e at is.from)

  zero_goes : (x : Entry) → x ∈ leaves w → Goes minute (pos 0) (cell_of x) → Goes minute id (cell_of x)
  zero_goes x m g = ⊎_elim (λ over. inl over) (λ e. absurd (not_zero x m e)) g

  no_fewer : (x : Entry) → x ∈ leaves w → stays minute id x ≤ stays minute (pos 0) x
  no_fewer x m = by (dec_goes minute (pos 0) (cell_of x))
    where
      by : Dec (Goes minute (pos 0) (cell_of x)) → stays minute id x ≤ stays minute (pos 0) x
      by (yes g) = omega (arith, goes_none minute id x (zero_goes x m g))
      by (no n) = omega (arith, stays_one minute (pos 0) x n, stays_most minute id x)

  pub is_there : many_stay w minute id < many_stay w minute (pos 0) → IsThere w minute id
  is_there less =
      let d = sum-differs (stays minute id) (stays minute (pos 0)) (leaves w) less in
      let x = d.0 in
      let stay = one_stays minute (pos 0) x (omega (arith, d.2)) in
      let g = none_goes minute id x (omega (arith, d.2, stays_most minute (pos 0) x)) in
      record {
        cell = cell_of x;
        is_held = Memᴰ.map cell_of d.1;
        lives = staying_lives (cell_of x) stay;
        has_id = ⊎_elim (λ over. absurd (stay (inl over))) (λ e. e) g;
      }

  pub not_there : many_stay w minute (pos 0) ≤ many_stay w minute id → IsThere w minute id → ⊥
  not_there no_less t =
      let d = Memᴰ.of_map cell_of (leaves w) t.is_held in
      let x = d.0 in
      let gone : Goes minute id (cell_of x) = subst (Goes minute id) (sym d.2) (inr t.has_id) in
      let zero : Goes minute (pos 0) (cell_of x) → ⊥ = living_stays (cell_of x) (subst (LivesAt minute) (sym d.2) t.lives) (not_zero x d.1) in
      omega (arith, sum_less (stays minute id) (stays minute (pos 0)) no_fewer d.1 (omega (arith, goes_none minute id x gone, stays_one minute (pos 0) x zero)))
