-- An inner node and some of its children rewritten: one law for a refreshed entry, a split, a join and a sharing out.
use Rattle.std.specs.Prelude.{◌≡◌, refl, ℕ, zero, suc, ◌+◌, ◌≤◌, ◌<◌, ℤ, length}
use Rattle.std.proofs.Math.Path.{sym}
use Rattle.std.proofs.Common.{ap, ◌∙◌, subst, inl, arith}
use Rattle.std.proofs.Math.Logic.{⊎_elim}
use mathlib.Core.List.Memᴰ
use mathlib.Core.List.{List, [], ◌∷◌, ◌++◌, map, flat_map}
use Rattle.std.proofs.Math.Decide.{ℕ_discrete}
use Rattle.std.specs.Int.Signed.{≤ℤ_refl}
use Rattle.whole.specs.Lists.{◌∈◌}
use Rattle.whole.specs.Inner.Times.{times}
use Rattle.track.specs.Numbers.{IsMinute}
use Rattle.node.specs.Entry.{Entry, child_word, child_of, stamp_of}
use Rattle.node.specs.WorkedOut.{WorkedOut}
use Rattle.table.specs.Header.{IsNode}
use Rattle.table.specs.SoundTree.{Nodes, is_leaf, NotBefore, EntrySound, TreeSound}
use Rattle.table.specs.Laws.Reach.{in_flat}
use Rattle.table.specs.Inner.Scan.{SoundIn}
use Rattle.table.specs.Laws.Scan.{sound_in, in_sound}
use Rattle.tree_laws.specs.Inner.Weights.{sum_over, SameWeights, visits, Once}
use Rattle.tree_laws.specs.Laws.Weights.{sum_none, sum-append, same_refl, same_as, same_sym, same_trans, same_append, same_entries, visits_in, is_node, is_self, is_other, not_other, times_cons, times_none, under, AgreeIn, weight_has, visits_has, visits_child, visits_self, weight_same, visits_same, weight-append, visits-append, weight-under, visits-under, leaves_in_frame, nodes_in_frame, sound_in_frame, sound_part}
use Rattle.tree_laws.specs.Inner.InnerEntries.{CallStart, Fine, AllInner, Renews}
use Rattle.tree_laws.specs.Laws.InnerEntries.{InnerIn, in_inner, inner_part, inner_has, inner_under, inner_in_frame}
use Rattle.tree_laws.specs.Inner.Moved.{Moved, no_weight, no_node}
use Rattle.tree_laws.specs.Laws.Moved.{moved_as}

-- how often node j is the child of one of the entries es
abbrev pub children : List Entry → ℕ → ℕ
children es j = times j (map child_of es)

-- node i had the entries olds and rest and has the entries news and rest. The entries of the news' children are together those that the
-- olds' children had; a child of the news is a child of the olds or was not met below i; and no other node was touched
pub record Regrouped (N N' : Nodes) (h i : ℕ) (olds news rest : List Entry) : Type 0 where
  pub once : Once N (suc h) i
  pub before : SameWeights (N i) (olds ++ rest)
  pub after : SameWeights (N' i) (news ++ rest)
  pub shared : SameWeights (under N olds) (under N' news)
  pub new : (j : ℕ) → visits j N (suc h) i + children news j ≤ 1 + children olds j
  pub other : (j : ℕ) → (j ≡ i → ⊥) → children olds j ≡ 0 → children news j ≡ 0 → N' j ≡ N j

-- the entry e is worked out at the clock from its child, which has h levels beneath it
pub record Afresh (N : Nodes) (cells : ℕ) (clock : ℤ) (h : ℕ) (e : Entry) : Type 0 where
  pub child_in : IsNode cells (child_word e)
  pub filled : 3 ≤ length (N (child_of e))
  pub worked_out : WorkedOut (is_leaf h) e (N (child_of e))
  pub stamp_in : IsMinute (stamp_of e)
  pub stamped : stamp_of e ≡ clock

-- it is sound above sound entries: none of their stamps is after the clock
pub afresh_sound : {N : Nodes} {cells : ℕ} {clock : ℤ} {h : ℕ} {e : Entry} → Afresh N cells clock h e → SoundIn N cells clock h (N (child_of e)) → EntrySound N cells clock h e
unfolding SoundIn
afresh_sound {N} {cells} {clock} {h} {e} a sound = record {
  child_in = a.child_in;
  filled = a.filled;
  worked_out = a.worked_out;
  stamp_in = a.stamp_in;
  stamped = rw a.stamped (≤ℤ_refl clock);
  not_before = early h sound;
}
  where
    early : (h : ℕ) → SoundIn N cells clock h (N (child_of e)) → NotBefore N h e
    early zero s = tt
    early (suc h) s = λ f m. rw a.stamped (s f m).0.stamped

module _ {N N' : Nodes} {h i : ℕ} {olds news rest : List Entry} (r : Regrouped N N' h i olds news rest) where
  -- what was met below i: i, below rest, the olds' children and below their entries
  met_before : (j : ℕ) → visits j N (suc h) i ≡ is_node j i + (children olds j + visits_in j N h (under N olds) + visits_in j N (suc h) rest)
  met_before j = omega (arith, visits_has N j (suc h) i r.before, visits-append N j (suc h) olds rest, visits-under N j h olds)

  met_after : (j : ℕ) → visits j N' (suc h) i ≡ is_node j i + (children news j + visits_in j N' h (under N olds) + visits_in j N' (suc h) rest)
  met_after j =
      omega (arith, visits_has N' j (suc h) i r.after, visits-append N' j (suc h) news rest, visits-under N' j h news, visits_same N' j h r.shared)

  untouched : (j : ℕ) → 0 < visits_in j N h (under N olds) + visits_in j N (suc h) rest → N' j ≡ N j
  untouched j some =
      r.other j
      (is_other (omega (arith, met_before j, r.once j)))
      (omega (arith, met_before j, r.once j))
      (omega (arith, met_before j, r.once j, r.new j))

  rest_agree : AgreeIn N N' (suc h) rest
  rest_agree j some = untouched j (omega arith)

  under_agree : AgreeIn N N' h (under N olds)
  under_agree j some = untouched j (omega arith)

  -- the leaf entries are the same; the news' children come in for the olds'
  pub regroup_moved : Moved N N' (suc h) i no_weight no_weight (children news) (children olds)
  regroup_moved = record {
    other = λ j z g. r.other j (is_other (omega (arith, met_before j))) (omega (arith, met_before j)) g;
    weight = λ φ.
        omega (
          arith,
          weight_has N φ (suc h) i r.before,
          weight-append N φ (suc h) olds rest,
          weight-under N φ h olds,
          weight_has N' φ (suc h) i r.after,
          weight-append N' φ (suc h) news rest,
          weight-under N' φ h news,
          weight_same N' φ h r.shared,
          ap (sum_over φ) (leaves_in_frame N N' h (under N olds) under_agree),
          ap (sum_over φ) (leaves_in_frame N N' (suc h) rest rest_agree),
        );
    met = λ j.
        omega (
          arith,
          met_before j,
          met_after j,
          ap (times j) (nodes_in_frame N N' h (under N olds) under_agree),
          ap (times j) (nodes_in_frame N N' (suc h) rest rest_agree),
        );
  }

  -- what comes in and what goes out, without the nodes that do both
  pub regroup_as : {got gone : ℕ → ℕ} → ((j : ℕ) → children news j + gone j ≡ got j + children olds j) → Moved N N' (suc h) i no_weight no_weight got gone
  regroup_as nodes = moved_as regroup_moved (λ φ. refl) nodes (λ j z g. omega (arith, nodes j, met_before j))

  pub regroup_once : Once N' (suc h) i
  regroup_once j = omega (arith, regroup_moved.met j, r.new j)

  -- node i is sound where rest and what stood below the olds are, and the news are worked out afresh; the olds themselves may be stale
  pub regroup_sound : (cells : ℕ) (clock : ℤ) → SoundIn N cells clock (suc h) rest → SoundIn N cells clock h (under N olds)
      → ((e : Entry) → e ∈ news → Afresh N' cells clock h e) → TreeSound N' cells clock (suc h) i
  unfolding TreeSound SoundIn
  regroup_sound cells clock rest_sound under_sound afresh = λ e m.
      ⊎_elim (of_news e) (sound_in_frame N N' cells clock (suc h) rest rest_agree rest_sound e) (Memᴰ.append_cases news (same_entries r.after e m))
    where
      of_news : (e : Entry) → e ∈ news → EntrySound N' cells clock h e × TreeSound N' cells clock h (child_of e)
      of_news e m =
          let all = sound_in_frame N N' cells clock h (under N olds) under_agree under_sound in
          let own = sound_part N' cells clock h {es = N' (child_of e)} (λ f n. same_entries (same_sym r.shared) f (in_flat (λ d. N' (child_of d)) m n)) all in
          (afresh_sound (afresh e m) own, in_sound N' cells clock h (child_of e) own)

  -- the inner entries: what is new is stamped at the clock, and the olds themselves may be stale
  pub regroup_fine : (S : CallStart) → ((e : Entry) → e ∈ news → stamp_of e ≡ S.minute) → InnerIn S N (suc h) rest → InnerIn S N h (under N olds) → AllInner S N' (suc h) i
  unfolding AllInner InnerIn
  regroup_fine S stamped rest_all under_all = λ e m.
      ⊎_elim (of_news e) (inner_in_frame S N N' (suc h) rest rest_agree rest_all e) (Memᴰ.append_cases news (same_entries r.after e m))
    where
      under_now : InnerIn S N' h (under N olds)
      under_now = inner_in_frame S N N' h (under N olds) under_agree under_all

      of_news : (e : Entry) → e ∈ news → Fine S N' h e × AllInner S N' h (child_of e)
      of_news e m =
          (inl (stamped e m), in_inner S N' h (child_of e) (inner_part S N' h (λ f n. same_entries (same_sym r.shared) f (in_flat (λ d. N' (child_of d)) m n)) under_now))

  pub regroup_renews : (clock : ℤ) → ((e : Entry) → e ∈ news → stamp_of e ≡ clock) → Renews clock N (suc h) i N' (suc h) i
  unfolding AllInner InnerIn
  regroup_renews clock stamped S new all = regroup_fine S (λ e m. stamped e m ∙ sym new) rest_all (inner_under S N h olds (inner_part S N (suc h) (λ d n. Memᴰ.append_left rest n) both))
    where
      both : InnerIn S N (suc h) (olds ++ rest)
      both = inner_has S N (suc h) i r.before all

      rest_all : InnerIn S N (suc h) rest
      rest_all = inner_part S N (suc h) (λ d n. Memᴰ.append_right olds n) both

-- ---- one entry and two
pub child_one : (a : Entry) (j : ℕ) → children (a ∷ []) j ≡ is_node j (child_of a)
child_one a j = omega (arith, times_cons j (child_of a) [], times_none j)

pub child_two : (a b : Entry) (j : ℕ) → children (a ∷ b ∷ []) j ≡ is_node j (child_of a) + is_node j (child_of b)
child_two a b j = omega (arith, times_cons j (child_of a) (child_of b ∷ []), child_one b j)

module _ (N : Nodes) where
  pub under_one : (a : Entry) → SameWeights (under N (a ∷ [])) (N (child_of a))
  unfolding flat_map
  under_one a = record { same = λ φ. omega (arith, sum-append φ (N (child_of a)) [], sum_none φ) }

  pub under_two : (a b : Entry) → SameWeights (under N (a ∷ b ∷ [])) (N (child_of a) ++ N (child_of b))
  unfolding flat_map
  under_two a b = same_append {l = N (child_of a)} same_refl (under_one b)

  sound_one : (cells : ℕ) (clock : ℤ) (h : ℕ) (a : Entry) → TreeSound N cells clock h (child_of a) → SoundIn N cells clock h (under N (a ∷ []))
  sound_one cells clock h a s = sound_part N cells clock h (same_entries (under_one a)) (sound_in N cells clock h (child_of a) s)

pub for_one : (P : Entry → Type 0) {a : Entry} → P a → (e : Entry) → e ∈ a ∷ [] → P e
for_one P p e m = rw (Memᴰ.eq_of_singleton m) p

pub for_two : (P : Entry → Type 0) {a b : Entry} → P a → P b → (e : Entry) → e ∈ a ∷ b ∷ [] → P e
for_two P {a} p q e m = ⊎_elim (λ (f : e ≡ a). rw f p) (for_one P q e) (Memᴰ.cases_cons m)

-- ---- the four ways of regrouping, for a node i below which no node is met twice. Each gives what is moved and that i is sound again
module _ (N N' : Nodes) (cells : ℕ) (clock : ℤ) (h i : ℕ) (once : Once N (suc h) i) where
  -- a child is not its parent
  pub child_other : {e : Entry} {rest : List Entry} → SameWeights (N i) (e ∷ rest) → child_of e ≡ i → ⊥
  child_other {e} {rest} has c =
      omega (arith, once i, visits_has N i (suc h) i has, visits_child N i h e rest, is_self i, subst (λ (k : ℕ). 0 < visits k N h (child_of e)) c (visits_self N h (child_of e)))

  -- refresh: the entry e gives way to e', for the same child
  module _ {e e' : Entry} {rest : List Entry} (has : SameWeights (N i) (e ∷ rest)) (has' : SameWeights (N' i) (e' ∷ rest)) (child : child_of e' ≡ child_of e)
      (other : (j : ℕ) → (j ≡ i → ⊥) → N' j ≡ N j) where
    pub refresh : Regrouped N N' h i (e ∷ []) (e' ∷ []) rest
    refresh = record {
      once = once;
      before = has;
      after = has';
      shared = same_trans (under_one N e) (same_trans (same_as (sym (ap N' child ∙ other (child_of e) (child_other has)))) (same_sym (under_one N' e')));
      new = λ j. omega (arith, once j, ap (is_node j) child, child_one e j, child_one e' j);
      other = λ j ne z z'. other j ne;
    }

    pub refresh_moved : Moved N N' (suc h) i no_weight no_weight no_node no_node
    refresh_moved = regroup_as refresh (λ j. omega (arith, ap (is_node j) child, child_one e j, child_one e' j))

  -- split: some of the entries of e's child stay, for the entry a, and the others go to node f, which was not met, for the entry b
  module _ {e a b : Entry} {rest : List Entry} (f : ℕ) (has : SameWeights (N i) (e ∷ rest)) (has' : SameWeights (N' i) (a ∷ b ∷ rest)) (child : child_of a ≡ child_of e) (child_new : child_of b ≡ f)
      (parted : SameWeights (N (child_of e)) (N' (child_of e) ++ N' f)) (fresh : visits f N (suc h) i ≡ 0)
      (other : (j : ℕ) → (j ≡ i → ⊥) → (j ≡ child_of e → ⊥) → (j ≡ f → ⊥) → N' j ≡ N j) where
    pub split : Regrouped N N' h i (e ∷ []) (a ∷ b ∷ []) rest
    split = record {
      once = once;
      before = has;
      after = has';
      shared = same_trans (under_one N e) (same_trans parted (same_sym (rw (child, child_new) at (under_two N' a b))));
      new = λ j. omega (arith, child_one e j, child_two a b j, ap (is_node j) child, ap (is_node j) child_new, room j (ℕ_discrete j f));
      other = λ j ne z z'.
          other j ne (is_other (omega (arith, child_one e j))) (is_other (omega (arith, child_two a b j, ap (is_node j) child_new)));
    }
      where
        room : (j : ℕ) → Dec (j ≡ f) → visits j N (suc h) i + is_node j f ≤ 1
        room j (yes q) = rw q (omega (arith, is_self f))
        room j (no ne) = omega (arith, not_other ne, once j)

    pub split_moved : Moved N N' (suc h) i no_weight no_weight (λ j. is_node j f) no_node
    split_moved = regroup_as split (λ j. omega (arith, child_one e j, child_two a b j, ap (is_node j) child, ap (is_node j) child_new))

    pub split_sound : SoundIn N cells clock (suc h) rest → TreeSound N cells clock h (child_of e) → Afresh N' cells clock h a → Afresh N' cells clock h b → TreeSound N' cells clock (suc h) i
    split_sound s t p q = regroup_sound split cells clock s (sound_one N cells clock h e t) (for_two (Afresh N' cells clock h) p q)

  module _ {a b : Entry} {rest : List Entry} (has : SameWeights (N i) (a ∷ b ∷ rest))
      (other : (j : ℕ) → (j ≡ i → ⊥) → (j ≡ child_of a → ⊥) → (j ≡ child_of b → ⊥) → N' j ≡ N j) where
    beside : (j : ℕ) → (j ≡ i → ⊥) → children (a ∷ b ∷ []) j ≡ 0 → N' j ≡ N j
    beside j ne z = other j ne (is_other (omega (arith, child_two a b j))) (is_other (omega (arith, child_two a b j)))

    -- join: the child of a takes the entries of b's child, which goes
    module _ {e : Entry} (has' : SameWeights (N' i) (e ∷ rest)) (child : child_of e ≡ child_of a) (joined : SameWeights (N (child_of a) ++ N (child_of b)) (N' (child_of a))) where
      pub join : Regrouped N N' h i (a ∷ b ∷ []) (e ∷ []) rest
      join = record {
        once = once;
        before = has;
        after = has';
        shared = same_trans (under_two N a b) (same_trans joined (same_sym (rw child at (under_one N' e))));
        new = λ j. omega (arith, once j, child_two a b j, child_one e j, ap (is_node j) child);
        other = λ j ne z z'. beside j ne z;
      }

      pub join_moved : Moved N N' (suc h) i no_weight no_weight no_node (λ j. is_node j (child_of b))
      join_moved = regroup_as join (λ j. omega (arith, child_two a b j, child_one e j, ap (is_node j) child))

    -- share: the children of a and of b share their entries out anew
    module _ {a' b' : Entry} (has' : SameWeights (N' i) (a' ∷ b' ∷ rest)) (child-a : child_of a' ≡ child_of a) (child-b : child_of b' ≡ child_of b)
        (shared : SameWeights (N (child_of a) ++ N (child_of b)) (N' (child_of a) ++ N' (child_of b))) where
      pub share : Regrouped N N' h i (a ∷ b ∷ []) (a' ∷ b' ∷ []) rest
      share = record {
        once = once;
        before = has;
        after = has';
        shared = same_trans (under_two N a b) (same_trans shared (same_sym (rw (child-a, child-b) at (under_two N' a' b'))));
        new = λ j. omega (arith, once j, child_two a b j, child_two a' b' j, ap (is_node j) child-a, ap (is_node j) child-b);
        other = λ j ne z z'. beside j ne z;
      }

      pub share_moved : Moved N N' (suc h) i no_weight no_weight no_node no_node
      share_moved = regroup_as share (λ j. omega (arith, child_two a b j, child_two a' b' j, ap (is_node j) child-a, ap (is_node j) child-b))
