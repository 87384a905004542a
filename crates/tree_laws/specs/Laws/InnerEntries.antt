-- The inner entries beneath a node: which they are, and that a change elsewhere leaves them as they were.
use Rattle.std.proofs.Common.{sym, ◌∙◌, subst, inl, inr}
use Rattle.std.specs.Prelude.{List}
use Prim.Native.Nat.{ℕ, zero, suc}
use Rattle.whole.specs.Lists.{◌∈◌, ◌⊆◌}
use Rattle.node.specs.Entry.{Entry, child_of}
use Rattle.table.specs.SoundTree.{Nodes}
use Rattle.table.specs.Laws.Reach.{flat_in, node_self, node_up}
use Rattle.table.specs.Inner.Frame.{Agree}
use Rattle.table.specs.Laws.Frame.{nodes_frame}
use Rattle.tree_laws.specs.Inner.Weights.{SameWeights}
use Rattle.tree_laws.specs.Laws.Weights.{same_sym, same_entries, AgreeIn, agree_child, under}
use Rattle.tree_laws.specs.Inner.InnerEntries.{CallStart, Fine, AllInner}

fine_frame : (S : CallStart) (N N' : Nodes) (h : ℕ) (e : Entry) → Agree N N' h (child_of e) → Fine S N h e → Fine S N' h e
fine_frame S N N' h e same (inl s) = inl s
fine_frame S N N' h e same (inr k) =
    inr (k.0, λ j n. same j (subst (λ (js : List ℕ). j ∈ js) (sym (nodes_frame S.nodes N h (child_of e) k.1)) n) ∙ k.1 j n)

-- and through some entries of such a node
unfoldable pub InnerIn : CallStart → Nodes → ℕ → List Entry → Type 0
InnerIn S N zero es = Unit {0}
InnerIn S N (suc h) es = (e : Entry) → e ∈ es → Fine S N h e × AllInner S N h (child_of e)

module _ (S : CallStart) (N : Nodes) where
  -- a node by its entries
  pub inner_in : (h i : ℕ) → AllInner S N h i → InnerIn S N h (N i)
  unfolding AllInner InnerIn
  inner_in zero i all = all
  inner_in (suc h) i all = all

  pub in_inner : (h i : ℕ) → InnerIn S N h (N i) → AllInner S N h i
  unfolding AllInner InnerIn
  in_inner zero i all = all
  in_inner (suc h) i all = all

  pub inner_part : (h : ℕ) {es fs : List Entry} → es ⊆ fs → InnerIn S N h fs → InnerIn S N h es
  unfolding InnerIn
  inner_part zero part all = all
  inner_part (suc h) part all = λ e m. all e (part e m)

  pub inner_has : (h i : ℕ) {es : List Entry} → SameWeights (N i) es → AllInner S N h i → InnerIn S N h es
  inner_has h i has all = inner_part h (same_entries (same_sym has)) (inner_in h i all)

  -- below the entries of a node
  pub inner_under : (h : ℕ) (es : List Entry) → InnerIn S N (suc h) es → InnerIn S N h (under N es)
  unfolding InnerIn AllInner
  inner_under zero es all = tt
  inner_under (suc h) es all = λ e m. let f = flat_in (λ d. N (child_of d)) es m in (all f.0 f.1).1 e f.2

-- two tables that agree on the nodes met
module _ (S : CallStart) (N N' : Nodes) where
  pub inner_frame : (h i : ℕ) → Agree N N' h i → AllInner S N h i → AllInner S N' h i
  unfolding AllInner
  inner_frame zero i same all = all
  inner_frame (suc h) i same all = λ e m.
      let n = rw (same i (node_self N (suc h) i)) at m in
      let below : Agree N N' h (child_of e) = λ j k. same j (node_up N h i n k) in
      (fine_frame S N N' h e below (all e n).0, inner_frame h (child_of e) below (all e n).1)

  pub inner_in_frame : (h : ℕ) (es : List Entry) → AgreeIn N N' h es → InnerIn S N h es → InnerIn S N' h es
  unfolding InnerIn
  inner_in_frame zero es same all = all
  inner_in_frame (suc h) es same all = λ e m.
      let below = agree_child N N' h same m in
      (fine_frame S N N' h e below (all e m).0, inner_frame h (child_of e) below (all e m).1)
