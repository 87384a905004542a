-- From a change below a child to one below the node: its entry worked out afresh, the child joined with another, or sharing with it.
use Rattle.std.specs.Prelude.{◌≡◌, refl, List, [], ◌∷◌, ◌++◌, ℕ, zero, suc, ◌+◌, ℤ}
use Rattle.std.proofs.Math.Path.{sym}
use Rattle.std.proofs.Common.{ap, ◌∙◌, arith}
use Rattle.std.proofs.Math.Logic.{⊎_elim}
use mathlib.Core.List.Memᴰ
use Rattle.whole.specs.Lists.{◌∈◌, ◌⊆◌}
use Rattle.node.specs.Entry.{Entry, child_of, stamp_of}
use Rattle.table.specs.SoundTree.{Nodes, TreeSound}
use Rattle.table.specs.Laws.Reach.{flat_in}
use Rattle.table.specs.Inner.Scan.{SoundIn}
use Rattle.table.specs.Laws.Scan.{sound_in}
use Rattle.tree_laws.specs.Inner.Weights.{SameWeights, visits, Once}
use Rattle.tree_laws.specs.Laws.Weights.{same_refl, same_sym, same_trans, same_append, same_swap, same_entries, is_node, under, sound_in_frame, sound_has, sound_head, sound_tail}
use Rattle.tree_laws.specs.Inner.InnerEntries.{CallStart, AllInner}
use Rattle.tree_laws.specs.Laws.InnerEntries.{InnerIn, inner_in, inner_part, inner_has, inner_in_frame}
use Rattle.tree_laws.specs.Inner.Moved.{no_weight, no_node}
use Rattle.tree_laws.specs.Laws.Moved.{Fresh, moved_as, moved_trans, moved_down, down_agree, down_has, down_once}
use Rattle.tree_laws.specs.Laws.Regroup.{children, child_one, child_two, for_one, for_two, Regrouped, Afresh, regroup_as, regroup_once, regroup_sound, regroup_fine, regroup_renews, refresh, split, split_moved, split_sound, join, share}
use Rattle.tree_laws.specs.Inner.Climb.{Mended}

-- after another change
pub mended_after : {cells : ℕ} {clock : ℤ} {N N₁ N₂ : Nodes} {h i : ℕ} {put out put' out' : (Entry → ℕ) → ℕ} {got gone got' gone' : ℕ → ℕ}
    → Mended cells clock N N₁ h i put out got gone → Mended cells clock N₁ N₂ h i put' out' got' gone'
    → Mended cells clock N N₂ h i (λ φ. put φ + put' φ) (λ φ. out φ + out' φ) (λ j. got j + got' j) (λ j. gone j + gone' j)
mended_after a b = record { moved = moved_trans a.moved b.moved; once = b.once; sound = b.sound; renews = λ S new all. b.renews S new (a.renews S new all) }

-- the same change, written otherwise
pub mended_as : {cells : ℕ} {clock : ℤ} {N N' : Nodes} {h i : ℕ} {put out put' out' : (Entry → ℕ) → ℕ} {got gone got' gone' : ℕ → ℕ} → Mended cells clock N N' h i put out got gone
    → ((φ : Entry → ℕ) → put φ + out' φ ≡ put' φ + out φ) → ((j : ℕ) → got j + gone' j ≡ got' j + gone j)
    → ((j : ℕ) → visits j N h i ≡ 0 → got' j ≡ 0 → got j ≡ 0) → Mended cells clock N N' h i put' out' got' gone'
mended_as m weights nodes in-got = record { moved = moved_as m.moved weights nodes in-got; once = m.once; sound = m.sound; renews = m.renews }

-- a child of a sound node is split: some of its entries stay, for the entry a, and the others go to node f, which was not met, for the entry b
pub split_mended : (cells : ℕ) (clock : ℤ) (N N' : Nodes) (h i f : ℕ) {e a b : Entry} {rest : List Entry} → Once N (suc h) i → TreeSound N cells clock (suc h) i
    → SameWeights (N i) (e ∷ rest) → SameWeights (N' i) (a ∷ b ∷ rest) → child_of a ≡ child_of e → child_of b ≡ f → SameWeights (N (child_of e)) (N' (child_of e) ++ N' f)
    → visits f N (suc h) i ≡ 0 → ((j : ℕ) → (j ≡ i → ⊥) → (j ≡ child_of e → ⊥) → (j ≡ f → ⊥) → N' j ≡ N j) → Afresh N' cells clock h a → Afresh N' cells clock h b
    → Mended cells clock N N' (suc h) i no_weight no_weight (λ j. is_node j f) no_node
split_mended cells clock N N' h i f {e} {rest} once sound has has' child child_new parted fresh other afresh-a afresh-b =
    let all = sound_has N cells clock (suc h) i has sound in
    record {
      moved = split_moved N N' cells clock h i once f has has' child child_new parted fresh other;
      once = regroup_once (split N N' cells clock h i once f has has' child child_new parted fresh other);
      sound =
          split_sound N N' cells clock h i once f has has' child child_new parted fresh other
          (sound_tail N cells clock (suc h) e rest all) (sound_head N cells clock h e rest all).1 afresh-a afresh-b;
      renews = regroup_renews (split N N' cells clock h i once f has has' child child_new parted fresh other) clock (for_two (λ d. stamp_of d ≡ clock) afresh-a.stamped afresh-b.stamped);
    }

-- node i has the entry e, whose child is mended, and the entries rest, which are sound
module _ (cells : ℕ) (clock : ℤ) (i : ℕ) {N N₁ : Nodes} {h : ℕ} {e : Entry} {rest : List Entry} {put out : (Entry → ℕ) → ℕ} {got gone : ℕ → ℕ}
    (has : SameWeights (N i) (e ∷ rest)) (once : Once N (suc h) i) (fresh : Fresh N (suc h) i got) (rest_sound : SoundIn N cells clock (suc h) rest)
    (m : Mended cells clock N N₁ h (child_of e) put out got gone) where
  -- i has its entries still, and the others of them are sound still
  pub climb_has : SameWeights (N₁ i) (e ∷ rest)
  climb_has = down_has i has once fresh m.moved

  pub climb_once : Once N₁ (suc h) i
  climb_once = down_once i has once fresh m.moved m.once

  pub climb_rest : SoundIn N₁ cells clock (suc h) rest
  climb_rest = sound_in_frame N N₁ cells clock (suc h) rest (down_agree i has once fresh m.moved) rest_sound

  -- the inner entries after the change below the child: those of the others, and those beneath e, which itself may be stale
  module _ (S : CallStart) (new : S.minute ≡ clock) (all : AllInner S N (suc h) i) where
    both : InnerIn S N (suc h) (e ∷ rest)
    both = inner_has S N (suc h) i has all

    climb_others : InnerIn S N₁ (suc h) rest
    climb_others = inner_in_frame S N N₁ (suc h) rest (down_agree i has once fresh m.moved) (inner_part S N (suc h) (λ c k. Memᴰ.tail k) both)

    climb_own : AllInner S N₁ h (child_of e)
    unfolding InnerIn
    climb_own = m.renews S new (both e (Memᴰ.head refl)).1

  -- e and some of the others are regrouped; of their children `freed` go out and none comes in
  pub climb : {N₂ : Nodes} {others olds news rest' : List Entry} {gone' : ℕ → ℕ} (freed : ℕ → ℕ) → SameWeights rest (others ++ rest') → olds ⊆ e ∷ others
      → Regrouped N₁ N₂ h i olds news rest' → ((d : Entry) → d ∈ news → Afresh N₂ cells clock h d)
      → ((j : ℕ) → children news j + freed j ≡ children olds j) → ((j : ℕ) → gone j + freed j ≡ gone' j) → Mended cells clock N N₂ (suc h) i put out got gone'
  unfolding SoundIn InnerIn
  climb {others} {olds} {rest'} freed parts from r afresh nodes sum = record {
    moved = moved_as (moved_trans (moved_down i has once fresh m.moved) (regroup_as r {got = no_node} {gone = freed} (λ j. omega (arith, nodes j))))
        (λ φ. omega arith) (λ j. omega (arith, sum j)) (λ j z g. omega arith);
    once = regroup_once r;
    sound = regroup_sound r cells clock
        (λ d n. climb_rest d (same_entries (same_sym parts) d (Memᴰ.append_right others n)))
        (under_sound h (λ o n. child_sound o (from o n))) afresh;
    renews = λ S new all. regroup_fine r S (λ d n. (afresh d n).stamped ∙ sym new)
        (inner_part S N₁ (suc h) (λ d n. same_entries (same_sym parts) d (Memᴰ.append_right others n)) (climb_others S new all))
        (under_fine S h (λ o n. child_fine S new all o (from o n)));
  }
    where
      child_sound : (o : Entry) → o ∈ e ∷ others → TreeSound N₁ cells clock h (child_of o)
      child_sound o n = ⊎_elim (λ (q : o ≡ e). rw q m.sound) (λ k. (climb_rest o (same_entries (same_sym parts) o (Memᴰ.append_left rest' k))).1) (Memᴰ.cases_cons n)

      child_fine : (S : CallStart) → S.minute ≡ clock → AllInner S N (suc h) i → (o : Entry) → o ∈ e ∷ others → AllInner S N₁ h (child_of o)
      child_fine S new all o n =
          ⊎_elim (λ (q : o ≡ e). rw q (climb_own S new all)) (λ k. (climb_others S new all o (same_entries (same_sym parts) o (Memᴰ.append_left rest' k))).1) (Memᴰ.cases_cons n)

      under_fine : (S : CallStart) (h : ℕ) → ((o : Entry) → o ∈ olds → AllInner S N₁ h (child_of o)) → InnerIn S N₁ h (under N₁ olds)
      under_fine S zero each = tt
      under_fine S (suc h) each = λ d n. let f = flat_in (λ o. N₁ (child_of o)) olds n in inner_in S N₁ (suc h) (child_of f.0) (each f.0 f.1) d f.2

      under_sound : (h : ℕ) → ((o : Entry) → o ∈ olds → TreeSound N₁ cells clock h (child_of o)) → SoundIn N₁ cells clock h (under N₁ olds)
      under_sound zero each = λ d n. let f = flat_in (λ o. N₁ (child_of o)) olds n in sound_in N₁ cells clock zero (child_of f.0) (each f.0 f.1) d f.2
      under_sound (suc h) each = λ d n. let f = flat_in (λ o. N₁ (child_of o)) olds n in sound_in N₁ cells clock (suc h) (child_of f.0) (each f.0 f.1) d f.2

  -- the entry of the child worked out afresh
  pub climb_refresh : {N₂ : Nodes} {e' : Entry} → SameWeights (N₂ i) (e' ∷ rest) → child_of e' ≡ child_of e → ((j : ℕ) → (j ≡ i → ⊥) → N₂ j ≡ N₁ j)
      → Afresh N₂ cells clock h e' → Mended cells clock N N₂ (suc h) i put out got gone
  climb_refresh {N₂} {e'} has' child other afresh =
      climb {others = []} no_node same_refl (λ o n. n) (refresh N₁ N₂ cells clock h i climb_once climb_has has' child other)
      (for_one (Afresh N₂ cells clock h) afresh) (λ j. omega (arith, ap (is_node j) child, child_one e j, child_one e' j)) (λ j. omega arith)

  -- besides e, node i has the entry b
  module _ {N₂ : Nodes} {b : Entry} {rest' : List Entry} (beside : SameWeights rest (b ∷ rest'))
      (other : (j : ℕ) → (j ≡ i → ⊥) → (j ≡ child_of e → ⊥) → (j ≡ child_of b → ⊥) → N₂ j ≡ N₁ j) where
    two_has : SameWeights (N₁ i) (e ∷ b ∷ rest')
    two_has = same_trans climb_has (same_append {l = e ∷ []} same_refl beside)

    -- the child goes, and b's child takes its entries
    pub climb_into : {b' : Entry} → SameWeights (N₂ i) (b' ∷ rest') → child_of b' ≡ child_of b → SameWeights (N₁ (child_of b) ++ N₁ (child_of e)) (N₂ (child_of b))
        → Afresh N₂ cells clock h b' → Mended cells clock N N₂ (suc h) i put out got (λ j. gone j + is_node j (child_of e))
    climb_into {b'} has' child joined afresh =
        climb {others = b ∷ []} (λ j. is_node j (child_of e)) beside (same_entries (same_swap (b ∷ []) (e ∷ [])))
        (join N₁ N₂ cells clock h i climb_once (same_trans two_has (same_append (same_swap (e ∷ []) (b ∷ [])) (same_refl {l = rest'}))) (λ j p q r. other j p r q) has' child joined)
        (for_one (Afresh N₂ cells clock h) afresh) (λ j. omega (arith, ap (is_node j) child, child_two b e j, child_one b' j)) (λ j. refl)

    -- the two share their entries out anew
    pub climb_share : {e' b' : Entry} → SameWeights (N₂ i) (e' ∷ b' ∷ rest') → child_of e' ≡ child_of e → child_of b' ≡ child_of b
        → SameWeights (N₁ (child_of e) ++ N₁ (child_of b)) (N₂ (child_of e) ++ N₂ (child_of b)) → Afresh N₂ cells clock h e' → Afresh N₂ cells clock h b'
        → Mended cells clock N N₂ (suc h) i put out got gone
    climb_share {e'} {b'} has' child-e child-b shared afresh-e afresh-b =
        climb {others = b ∷ []} no_node beside (λ o n. n) (share N₁ N₂ cells clock h i climb_once two_has other has' child-e child-b shared)
        (for_two (Afresh N₂ cells clock h) afresh-e afresh-b) (λ j. omega (arith, ap (is_node j) child-e, ap (is_node j) child-b, child_two e b j, child_two e' b' j)) (λ j. omega arith)
