-- From what is said of all inner entries to the entries themselves: after a change each is stamped at the minute, or stood there before with the same beneath it.
use Rattle.std.specs.Prelude.{◌≡◌, refl, ◌⊎◌, ℤ, length}
use Rattle.std.proofs.Common.{ap, inr, arith}
use Rattle.std.proofs.Math.Path.{subst}
use Rattle.std.proofs.Math.Logic.{⊎_elim}
use mathlib.Core.List.Memᴰ
use mathlib.Core.List.{List, [], flat_map, map}
use Prim.Native.Nat.{ℕ, zero, suc}
use Rattle.whole.specs.Lists.{◌∈◌}
use Rattle.node.specs.Entry.{child_of, stamp_of}
use Rattle.table.specs.Header.{capacity, clock, root, height, entries_at}
use Rattle.table.specs.Sound.{Sound}
use Rattle.table.specs.SoundTree.{Nodes}
use Rattle.table.specs.Laws.Reach.{flat_in, in_flat}
use Rattle.tree_laws.specs.Inner.InnerEntries.{CallStart, Fine, AllInner}
use Rattle.tree_laws.specs.Laws.Tall.{some_leaf}
use Rattle.tree.specs.Inner.Holding.{leaves, RenewsAll}
use Rattle.tree.specs.Steps.{inners, SameBelow}
use Rattle.table.specs.SoundTree.{InnerEntry, inner_at, inners_of}

module _ (S : CallStart) (N : Nodes) where
  listed_all : (h i : ℕ) → ((e : InnerEntry) → e ∈ inners_of N h i → Fine S N e.levels e.entry) → AllInner S N h i
  unfolding AllInner inners_of
  listed_all zero i each = tt
  listed_all (suc h) i each = λ e m. (
    each (inner_at h e) (Memᴰ.append_left (flat_map (λ d. inners_of N h (child_of d)) (N i)) (Memᴰ.map (inner_at h) m)),
    listed_all h (child_of e) (λ f n. each f (Memᴰ.append_right (map (inner_at h) (N i)) (in_flat (λ d. inners_of N h (child_of d)) m n))),
  )

  all_listed : (h i : ℕ) → AllInner S N h i → (e : InnerEntry) → e ∈ inners_of N h i → Fine S N e.levels e.entry
  unfolding AllInner inners_of
  all_listed zero i all e m = absurd (Memᴰ.not-nil m)
  all_listed (suc h) i all e m =
      ⊎_elim
      (λ n. let f = Memᴰ.of_map (inner_at h) (N i) n in subst (λ (d : InnerEntry). Fine S N d.levels d.entry) f.2 (all f.0 f.1).0)
      (λ n. let f = flat_in (λ d. inners_of N h (child_of d)) (N i) n in all_listed h (child_of f.0) (all f.0 f.1).1 e f.2)
      (Memᴰ.append_cases (map (inner_at h) (N i)) m)

-- a sound table with no cell has no inner entry
pub no_inner : {w : List ℤ} → Sound w → leaves w ≡ [] → (e : InnerEntry) → e ∈ inners w → ⊥
unfolding inners_of
no_inner {w} s none = by (height w) refl
  where
    empty : length (leaves w) ≡ 0
    empty = ap length none

    by : (h : ℕ) → height w ≡ h → (e : InnerEntry) → e ∈ inners w → ⊥
    by zero flat e m = Memᴰ.not-nil (rw flat at m)
    by (suc h) tall e m = omega (arith, empty, some_leaf (entries_at w) (capacity w) (clock w) (height w) (root w) s.tree (omega (arith, s.root_filled (omega arith))))

pub renewed_entries : {minute : ℤ} (w v : List ℤ) → RenewsAll minute w v → (e : InnerEntry) → e ∈ inners v → (stamp_of e.entry ≡ minute) ⊎ ((e ∈ inners w) × SameBelow w v e)
renewed_entries {minute} w v renews e m =
    all_listed start (entries_at v) (height v) (root v)
    (renews start refl (listed_all start (entries_at w) (height w) (root w) (λ d n. inr (n, λ j k. refl)))) e m
  where
    start : CallStart
    start = record { nodes = entries_at w; inners = inners w; minute = minute }
