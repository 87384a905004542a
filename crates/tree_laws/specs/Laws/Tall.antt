-- A sound node with levels beneath it has a node on each of them, so a table's height is small.
use mathlib.Core.List.Memᴰ
use mathlib.Core.List.{List, [], ◌∷◌, flat_map}
use Rattle.std.specs.Prelude.{refl, ℕ, zero, suc, ◌<◌, ℤ, length}
use Rattle.std.proofs.Common.{not-suc-le-zero, arith, length-append}
use Rattle.node.specs.Entry.{Entry, child_of}
use Rattle.table.specs.SoundTree.{Nodes, leaves_of, nodes_of, TreeSound, EntrySound}
use Rattle.whole.specs.Lists.{◌∈◌}

pub tall : (N : Nodes) (cells : ℕ) (clock : ℤ) (h i : ℕ) → TreeSound N cells clock h i → 0 < length (N i) → h < length (nodes_of N h i)
unfolding TreeSound nodes_of flat_map
tall N cells clock zero i sound some = omega arith
tall N cells clock (suc h) i sound some = by (λ c s more. tall N cells clock h c s more) (N i) sound some
  where
    by : ((c : ℕ) → TreeSound N cells clock h c → 0 < length (N c) → h < length (nodes_of N h c)) → (es : List Entry) → ((e : Entry) → e ∈ es → EntrySound N cells clock h e × TreeSound N cells clock h (child_of e)) → 0 < length es
        → suc h < suc (length (flat_map (λ e. nodes_of N h (child_of e)) es))
    by below [] each none = absurd (not-suc-le-zero none)
    by below (e ∷ es) each some =
        let s = each e (Memᴰ.head refl) in
        omega (arith, below (child_of e) s.1 (omega (arith, s.0.filled)), length-append (nodes_of N h (child_of e)) (flat_map (λ d. nodes_of N h (child_of d)) es))

-- and a leaf entry beneath it
pub some_leaf : (N : Nodes) (cells : ℕ) (clock : ℤ) (h i : ℕ) → TreeSound N cells clock h i → 0 < length (N i) → 0 < length (leaves_of N h i)
unfolding TreeSound leaves_of flat_map
some_leaf N cells clock zero i sound some = some
some_leaf N cells clock (suc h) i sound some = by (λ c s more. some_leaf N cells clock h c s more) (N i) sound some
  where
    by : ((c : ℕ) → TreeSound N cells clock h c → 0 < length (N c) → 0 < length (leaves_of N h c)) → (es : List Entry) → ((e : Entry) → e ∈ es → EntrySound N cells clock h e × TreeSound N cells clock h (child_of e)) → 0 < length es
        → 0 < length (flat_map (λ e. leaves_of N h (child_of e)) es)
    by below [] each none = absurd (not-suc-le-zero none)
    by below (e ∷ es) each some =
        let s = each e (Memᴰ.head refl) in
        omega (arith, below (child_of e) s.1 (omega (arith, s.0.filled)), length-append (leaves_of N h (child_of e)) (flat_map (λ d. leaves_of N h (child_of d)) es))
