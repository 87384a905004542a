-- All that is found meets and is there, all that is there and meets is found, and no more is found or opened than there is.
use Rattle.std.specs.Prelude.{◌≡◌, refl, ℤ, length, ◌≤ℤ◌}
use Rattle.std.proofs.Common.{ap, length-append}
use Rattle.std.proofs.Math.Bool.{true, false}
use mathlib.Core.List.Memᴰ
use mathlib.Core.List.{List, [], ◌∷◌, ◌++◌, flat_map}
use Prim.Native.Nat.{ℕ, zero, suc, ◌+◌, ◌≤◌}
use native.Mathlib.Omega.{arith}
use Rattle.whole.specs.Lists.{◌∈◌}
use Rattle.track.specs.Meets.{CellMeets}
use Rattle.track.specs.declared.queries.Query.{Query}
use Rattle.node.specs.Entry.{Entry, cell_of, child_of, bounds_of, until_of}
use Rattle.table.specs.SoundTree.{Nodes, leaves_of, nodes_of, TreeSound}
use Rattle.table.specs.Laws.Reach.{flat_in, in_flat, leaf_down, leaf_up}
use Rattle.table.specs.Laws.Covers.{covers_cell}
use Rattle.query.specs.Opened.{entry_meets?, only_if, opened_by, opened_in}
use Rattle.query.specs.Inner.Finding.{found_by}

-- those found from node i
abbrev pub found_in : Nodes → Query → ℕ → ℕ → List Entry
found_in N q h i = flat_map (found_by N q h) (N i)

-- ---- a list that is there only if a fact holds
module _ {P : Type 0} {A : Type 0} where
  pub only_yes : (d : Dec P) (l : List A) → P → only_if d l ≡ l
  only_yes (yes p) l h = refl
  only_yes (no n) l h = absurd (n h)

  pub only_no : (d : Dec P) (l : List A) → (P → ⊥) → only_if d l ≡ []
  only_no (yes p) l h = absurd (h p)
  only_no (no n) l h = refl

  only_in : (d : Dec P) {l : List A} {x : A} → x ∈ only_if d l → P × x ∈ l
  only_in (yes p) m = (p, m)
  only_in (no n) m = absurd (Memᴰ.not-nil m)

  in_only : (d : Dec P) {l : List A} {x : A} → P → x ∈ l → x ∈ only_if d l
  in_only (yes p) h m = m
  in_only (no n) h m = absurd (n h)

-- ---- all that is found meets, and is there
module _ (N : Nodes) (q : Query) where
  pub found_meets : (h i : ℕ) {f : Entry} → f ∈ found_in N q h i → f ∈ leaves_of N h i × CellMeets (cell_of f) q
  unfolding found_by leaves_of bounds_of until_of cell_of
  found_meets zero i m =
      let r = flat_in (found_by N q zero) (N i) m in
      let o = only_in (entry_meets? q true r.0) r.2 in
      let e = Memᴰ.eq_of_singleton o.1 in
      rw e (r.1, o.0)
  found_meets (suc h) i m =
      let r = flat_in (found_by N q (suc h)) (N i) m in
      let o = only_in (entry_meets? q false r.0) r.2 in
      let below = found_meets h (child_of r.0) o.1 in
      (leaf_up N h i r.1 below.0, below.1)

  -- ---- and all that meets is found, where the tree is sound and the query does not start before the clock
  module _ (cells : ℕ) (clock : ℤ) (due : clock ≤ℤ q.start.at) where
    pub meets_found : (h i : ℕ) {f : Entry} → TreeSound N cells clock h i → f ∈ leaves_of N h i → CellMeets (cell_of f) q → f ∈ found_in N q h i
    unfolding found_by leaves_of bounds_of until_of cell_of TreeSound
    meets_found zero i {f} tree m met = in_flat (found_by N q zero) m (in_only (entry_meets? q true f) met (Memᴰ.head refl))
    meets_found (suc h) i tree m met =
        let r = leaf_down N h i m in
        let meets = covers_cell N cells clock q due h i tree r.1 r.2 met in
        in_flat (found_by N q (suc h)) r.1 (in_only (entry_meets? q false r.0) meets (meets_found h (child_of r.0) (below h i tree r.1) r.2 met))
      where
        below : (h i : ℕ) {e : Entry} → TreeSound N cells clock (suc h) i → e ∈ N i → TreeSound N cells clock h (child_of e)
        below h i {e} tree m = (tree e m).1

-- ---- a measure of lists that adds up
pub record Adds {A : Type 0} (size : List A → ℕ) : Type 0 where
  pub none : size [] ≡ 0
  pub append : (l m : List A) → size (l ++ m) ≡ size l + size m

flat_less : {A B : Type 0} (f g : A → List B) {size : List B → ℕ} → Adds size → ((x : A) → size (f x) ≤ size (g x)) → (l : List A) → size (flat_map f l) ≤ size (flat_map g l)
unfolding flat_map
flat_less f g a less [] = omega arith
flat_less f g a less (x ∷ l) = omega (arith, less x, flat_less f g a less l, a.append (f x) (flat_map f l), a.append (g x) (flat_map g l))

only_less : {P A : Type 0} (d : Dec P) {size : List A → ℕ} → Adds size → (l : List A) → size (only_if d l) ≤ size l
only_less (yes p) a l = omega arith
only_less (no n) a l = omega (arith, a.none)

flat_single : {A : Type 0} (l : List A) → flat_map (λ x. x ∷ []) l ≡ l
unfolding flat_map
flat_single [] = refl
flat_single {A} (x ∷ l) = ap {B = List A} (λ m. x ∷ m) (flat_single l)

pub length_adds : {A : Type 0} → Adds {A = A} length
length_adds = record { none = refl; append = length-append }

flat_none : {A : Type 0} (B : Type 0) (l : List A) → length {A = B} (flat_map (λ (x : A). []) l) ≡ 0
unfolding flat_map
flat_none B [] = refl
flat_none B (x ∷ l) = flat_none B l

-- no more is found than there is, by any such measure, and no more nodes are opened than are reached
module _ (N : Nodes) (q : Query) where
  pub found_less : {size : List Entry → ℕ} → Adds size → (h i : ℕ) → size (found_in N q h i) ≤ size (leaves_of N h i)
  unfolding found_by leaves_of
  found_less {size} a zero i =
      let less = flat_less (found_by N q zero) (λ e. e ∷ []) a (λ e. only_less (entry_meets? q true e) a (e ∷ [])) (N i) in
      rw flat_single at less
  found_less {size} a (suc h) i =
      flat_less (found_by N q (suc h)) (λ e. leaves_of N h (child_of e)) a
      (λ e. omega (arith, only_less (entry_meets? q false e) a (found_in N q h (child_of e)), found_less a h (child_of e))) (N i)

  pub opened_less : (h i : ℕ) → length (opened_in N q h i) ≤ length (nodes_of N h i)
  unfolding opened_by nodes_of
  opened_less zero i = omega (arith, flat_none ℕ (N i))
  opened_less (suc h) i =
      let less = flat_less (opened_by N q (suc h)) (λ e. nodes_of N h (child_of e)) length_adds
      (λ e. omega (arith, only_less (entry_meets? q false e) length_adds (opened_in N q h (child_of e)), opened_less h (child_of e))) (N i) in
      omega arith
