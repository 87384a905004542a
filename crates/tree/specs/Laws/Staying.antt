-- How many cells stay: what each entry counts, and one law for each way through the walk.
use Rattle.std.specs.Prelude.{◌≡◌, Bool, true, false, not, List, [], ◌∷◌, ℕ, suc, ◌+◌, ◌≤◌, ◌<◌, ℤ, length, get_or, take, drop}
use Rattle.std.proofs.Math.Path.{refl}
use Rattle.std.specs.Int.{from_bool}
use Rattle.whole.specs.Tells.{Tells}
use Rattle.std.proofs.Common.{sym, ap, ◌∙◌, take-append-drop, drop_of_length-le}
use native.Mathlib.Omega.{arith}
use Rattle.node.specs.Entry.{Entry, cell_of, child_of}
use Rattle.table.specs.Header.{capacity, greatest_capacity, entries_at}
use Rattle.table.specs.SoundTree.{leaves_of}
use Rattle.table.specs.Inner.Scan.{leaves_in}
use Rattle.tree_laws.specs.Inner.Weights.{sum_over, weight_in}
use Rattle.tree_laws.specs.Laws.Weights.{sum_none, sum_cons, sum-length, weight_none, weight_node, weight-append, weight_child, weight_has}
use Rattle.node.specs.Inner.Change.{without}
use Rattle.tree_laws.specs.Laws.Places.{at_weights}
use Rattle.table.specs.Laws.AtNode.{entries_left}
use Rattle.tree_nodes.specs.Inner.PartChild.{child_at}
use Rattle.tree_nodes.specs.Laws.PartChild.{child_low, child_sound}
use Rattle.tree_laws.specs.Inner.Goes.{Goes}
use Rattle.tree_laws.specs.Laws.Goes.{dec_goes}
use Rattle.tree.specs.Inner.Staying.{one_unless, stays, CanCount, stay_from}

module _ (minute id : ℤ) (e : Entry) where
  pub goes_none : Goes minute id (cell_of e) → stays minute id e ≡ 0
  unfolding stays
  goes_none g = by (dec_goes minute id (cell_of e))
    where
      by : (d : Dec (Goes minute id (cell_of e))) → one_unless d ≡ 0
      by (yes p) = refl
      by (no n) = absurd (n g)

  pub stays_one : (Goes minute id (cell_of e) → ⊥) → stays minute id e ≡ 1
  unfolding stays
  stays_one n = by (dec_goes minute id (cell_of e))
    where
      by : (d : Dec (Goes minute id (cell_of e))) → one_unless d ≡ 1
      by (yes p) = absurd (n p)
      by (no m) = refl

  -- what a test that it goes counts
  pub stays_told : {goes : Bool} → Tells goes (Goes minute id (cell_of e)) → from_bool (not goes) ≡ stays minute id e
  stays_told {goes = true} t = sym (goes_none (t.sure tt))
  stays_told {goes = false} t = sym (stays_one t.seen)

  pub none_goes : stays minute id e ≡ 0 → Goes minute id (cell_of e)
  unfolding stays
  none_goes z = by (dec_goes minute id (cell_of e)) z
    where
      by : (d : Dec (Goes minute id (cell_of e))) → one_unless d ≡ 0 → Goes minute id (cell_of e)
      by (yes p) z = p
      by (no m) z = absurd (omega arith)

  pub one_stays : 0 < stays minute id e → Goes minute id (cell_of e) → ⊥
  one_stays some g = omega (arith, goes_none g)

  pub stays_most : stays minute id e ≤ 1
  unfolding stays
  stays_most = by (dec_goes minute id (cell_of e))
    where
      by : (d : Dec (Goes minute id (cell_of e))) → one_unless d ≤ 1
      by (yes p) = omega arith
      by (no m) = omega arith

-- of so many entries no more stay
pub few_stay : (minute id : ℤ) (l : List Entry) → sum_over (stays minute id) l ≤ length l
few_stay minute id [] = omega (arith, sum_none (stays minute id))
few_stay minute id (e ∷ l) = omega (arith, sum_cons (stays minute id) e l, stays_most minute id e, few_stay minute id l)

module _ (w : List ℤ) (minute id : ℤ) (i k : ℕ) where
  pub stay_end : (h : ℕ) → length (entries_at w i) ≤ k → stay_from w minute id h i k ≡ 0
  stay_end h few = rw (drop_of_length-le (entries_at w i) few) (weight_none (entries_at w) (stays minute id) h)

  pub stay_leaf : k < length (entries_at w i) → stay_from w minute id 0 i k ≡ stays minute id (get_or (entries_at w i) k []) + stay_from w minute id 0 i (k + 1)
  unfolding leaves_in
  stay_leaf low = rw (entries_left w i k low) (sum_cons (stays minute id) (get_or (entries_at w i) k []) (drop (k + 1) (entries_at w i)))

  pub stay_inner : (h : ℕ) → k < length (entries_at w i) → stay_from w minute id (suc h) i k ≡ stay_from w minute id h (child_at (entries_at w) i k) 0 + stay_from w minute id (suc h) i (k + 1)
  stay_inner h low =
      let e = get_or (entries_at w i) k [] in
      rw (entries_left w i k low) (
      weight_child (entries_at w) (stays minute id) h e (drop (k + 1) (entries_at w i)) ∙
      ap (λ (n : ℕ). n + stay_from w minute id (suc h) i (k + 1)) (weight_node (entries_at w) (stays minute id) h (child_of e)))

  -- no more than the cells below the node
  pub stay_most : (h : ℕ) → CanCount w h i → stay_from w minute id h i k ≤ greatest_capacity
  stay_most h can =
      omega (
        arith,
        can.few,
        few_stay minute id (leaves_of (entries_at w) h i),
        weight_node (entries_at w) (stays minute id) h i,
        ap (weight_in (stays minute id) (entries_at w) h) (take-append-drop k (entries_at w i)),
        weight-append (entries_at w) (stays minute id) h (take k (entries_at w i)) (drop k (entries_at w i)),
      )

-- a child
pub can_count_child : {w : List ℤ} {h i k child : ℕ} → CanCount w (suc h) i → k < length (entries_at w i) → child ≡ child_at (entries_at w) i k → CanCount w h child
can_count_child {w} {h} {i} {k} can low is =
    let N = entries_at w in
    let e = get_or (N i) k [] in
    let one : Entry → ℕ = λ d. 1 in
    record {
      ample = can.ample;
      node_in = rw is (child_low N (capacity w) can.clock h i k can.sound low);
      clock = can.clock;
      sound = rw is (child_sound N (capacity w) can.clock h i k can.sound low);
      few = rw is (
          omega (
            arith,
            can.few,
            sum-length (leaves_of N (suc h) i),
            sum-length (leaves_of N h (child_of e)),
            weight_has N one (suc h) i (at_weights (N i) k [] low),
            weight_child N one h e (without k (N i)),
          ));
    }
