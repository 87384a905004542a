-- The soundness test's pass over the tree: one law for each way through the code.
-- `es` are entries of a node that has h levels beneath it; `marks` tells for each node whether it was met; m identifiers are gathered.
use Rattle.std.specs.Prelude.{◌≡◌, refl, Bool, true, false, not, Option, Some, None, ℕ, zero, suc, ◌+◌, ◌-◌, ◌≤◌, ◌<◌, eqb, ℤ, length, get_or, set, take}
use Rattle.std.proofs.Common.{sym, ◌∙◌, add-one, sub-one, arith, length-append, length-set, get_or-set_same, get_or-set_other, take-suc-set, eq-eqb, ne_eqb}
use Rattle.std.proofs.Math.Path.{ap}
use Rattle.std.proofs.Math.Logic.{⊎_elim}
use mathlib.Core.List.Memᴰ
use mathlib.Core.List.{List, [], ◌∷◌, ◌++◌, map, map-append, flat_map, append_assoc, append-nil}
use Rattle.std.proofs.Math.Decide.{ℕ_discrete}
use Rattle.whole.specs.Laws.Tells.{true_not_false, not_true, not_false}
use Rattle.whole.specs.Inner.Times.{times, once_if}
use Rattle.whole.specs.Laws.Times.{times-append}
use Rattle.track.specs.Life.{CellInRange}
use Rattle.node.specs.Entry.{Entry, cell_of, child_of}
use Rattle.table.specs.SoundTree.{Nodes, leaves_of, nodes_of, EntrySound, TreeSound}
use Rattle.table.specs.Inner.Scan.{leaves_in, nodes_in, SoundIn, key_of, EntryTaken, Entered, Passes, Leaves, PassOutcome}

pub leaves_in_lem : (N : Nodes) (h i : ℕ) → leaves_of N h i ≡ leaves_in N h (N i)
unfolding leaves_of leaves_in
leaves_in_lem N zero i = refl
leaves_in_lem N (suc h) i = refl

pub nodes_in_lem : (N : Nodes) (h i : ℕ) → nodes_of N h i ≡ i ∷ nodes_in N h (N i)
unfolding nodes_of nodes_in
nodes_in_lem N zero i = refl
nodes_in_lem N (suc h) i = refl

pub sound_in : (N : Nodes) (cells : ℕ) (clock : ℤ) (h i : ℕ) → TreeSound N cells clock h i → SoundIn N cells clock h (N i)
unfolding TreeSound SoundIn
sound_in N cells clock zero i s = s
sound_in N cells clock (suc h) i s = s

pub in_sound : (N : Nodes) (cells : ℕ) (clock : ℤ) (h i : ℕ) → SoundIn N cells clock h (N i) → TreeSound N cells clock h i
unfolding TreeSound SoundIn
in_sound N cells clock zero i s = s
in_sound N cells clock (suc h) i s = s

pub taken_yes : {cells : ℕ} {e : Entry} {keys : List ℕ} {m : ℕ} {keys' : List ℕ} → CellInRange (cell_of e) → m < cells → keys' ≡ set keys m (key_of e) → EntryTaken cells e keys m true keys'
taken_yes c lt k = record { taken = λ t. (c, lt, k); refused = true_not_false }

pub taken_no : {cells : ℕ} {e : Entry} {keys : List ℕ} {m : ℕ} {keys' : List ℕ} → (CellInRange (cell_of e) → m < cells → ⊥) → keys' ≡ keys → EntryTaken cells e keys m false keys'
taken_no n k = record { taken = λ t. true_not_false (sym t); refused = λ f. (n, k) }

module _ {N : Nodes} {C : ℕ → Type 0} {cells : ℕ} {clock : ℤ} {h : ℕ} {e : Entry} {marks marks' : List ℕ} where
  pub entered_yes : EntrySound N cells clock h e → C (child_of e) → get_or marks (child_of e) 0 ≡ 0 → marks' ≡ set marks (child_of e) 1 → Entered N C cells clock h e marks true marks'
  entered_yes s c z k = record { entered = λ t. (s, c, z, k); refused = true_not_false }

  pub entered_no : (EntrySound N cells clock h e → C (child_of e) → get_or marks (child_of e) 0 ≡ 0 → ⊥) → marks' ≡ marks → Entered N C cells clock h e marks false marks'
  entered_no n k = record { entered = λ t. true_not_false (sym t); refused = λ f. (n, k) }

-- ---- one entry more
module _ (N : Nodes) where
  pub leaves_cons : (h : ℕ) (e : Entry) (es : List Entry) → leaves_in N (suc h) (e ∷ es) ≡ leaves_in N h (N (child_of e)) ++ leaves_in N (suc h) es
  unfolding leaves_in flat_map
  leaves_cons h e es = ap (λ (l : List Entry). l ++ flat_map (λ d. leaves_of N h (child_of d)) es) (leaves_in_lem N h (child_of e))

  leaves-length : (h : ℕ) (e : Entry) (es : List Entry) → length (leaves_in N (suc h) (e ∷ es)) ≡ length (leaves_in N h (N (child_of e))) + length (leaves_in N (suc h) es)
  leaves-length h e es = ap length (leaves_cons h e es) ∙ length-append (leaves_in N h (N (child_of e))) (leaves_in N (suc h) es)

  nodes_cons : (h : ℕ) (e : Entry) (es : List Entry) → nodes_in N (suc h) (e ∷ es) ≡ (child_of e ∷ nodes_in N h (N (child_of e))) ++ nodes_in N (suc h) es
  unfolding nodes_in flat_map
  nodes_cons h e es = ap (λ (l : List ℕ). l ++ flat_map (λ d. nodes_of N h (child_of d)) es) (nodes_in_lem N h (child_of e))

  nodes_times : (h : ℕ) (e : Entry) (es : List Entry) (j : ℕ) → times j (nodes_in N (suc h) (e ∷ es)) ≡ once_if (eqb j (child_of e)) + times j (nodes_in N h (N (child_of e))) + times j (nodes_in N (suc h) es)
  unfolding times
  nodes_times h e es j =
      let t = times-append j (child_of e ∷ nodes_in N h (N (child_of e))) (nodes_in N (suc h) es) in
      ap (times j) (nodes_cons h e es) ∙ t

-- a mark put on a node that had none
pub mark_put : (marks : List ℕ) (c j : ℕ) → c < length marks → get_or marks c 0 ≡ 0 → get_or (set marks c 1) j 0 ≡ get_or marks j 0 + once_if (eqb j c)
mark_put marks c j lt z = by (ℕ_discrete j c)
  where
    by : Dec (j ≡ c) → get_or (set marks c 1) j 0 ≡ get_or marks j 0 + once_if (eqb j c)
    by (yes e) = rw (e, eq-eqb c c refl, get_or-set_same marks c 1 0 lt, z)
    by (no ne) = let f = ne_eqb j c ne in rw (f, get_or-set_other marks c j 1 0 ne) (omega arith)

-- what a pass leaves, one entry more
leaf_leaves : (N : Nodes) (e : Entry) (es : List Entry) (marks keys : List ℕ) (m : ℕ) → m < length keys → (m' : ℕ) (marks' keys' : List ℕ)
    → Leaves N zero es marks (set keys m (key_of e)) (m + 1) m' marks' keys' → Leaves N zero (e ∷ es) marks keys m m' marks' keys'
unfolding leaves_in nodes_in
leaf_leaves N e es marks keys m lt m' marks' keys' l = record {
  more = omega (arith, l.more);
  marked = l.marked;
  gathered = l.gathered ∙ rw (add-one m, take-suc-set keys m (key_of e) lt) (append_assoc (take m keys) (key_of e ∷ []) (map key_of es));
}

inner_leaves : (N : Nodes) (h : ℕ) (e : Entry) (es : List Entry) (marks keys : List ℕ) (m : ℕ) → child_of e < length marks → get_or marks (child_of e) 0 ≡ 0
    → (m₁ : ℕ) (marks₁ keys₁ : List ℕ) → Leaves N h (N (child_of e)) (set marks (child_of e) 1) keys m m₁ marks₁ keys₁
    → (m' : ℕ) (marks' keys' : List ℕ) → Leaves N (suc h) es marks₁ keys₁ m₁ m' marks' keys' → Leaves N (suc h) (e ∷ es) marks keys m m' marks' keys'
inner_leaves N h e es marks keys m lt z m₁ marks₁ keys₁ l m' marks' keys' k = record {
  more = omega (arith, k.more, l.more, leaves-length N h e es);
  marked = λ j. omega (arith, k.marked j, l.marked j, nodes_times N h e es j, mark_put marks (child_of e) j lt z);
  gathered =
      k.gathered ∙
      rw (l.gathered, leaves_cons N h e es, map-append)
      (append_assoc (take m keys) (map key_of (leaves_in N h (N (child_of e)))) (map key_of (leaves_in N (suc h) es)));
}

-- ---- the ways through the code
module _ {N : Nodes} {C : ℕ → Type 0} {cells : ℕ} {clock : ℤ} where
  bad : {h : ℕ} {es : List Entry} {marks keys marks' keys' : List ℕ} {m : ℕ} → length marks' ≡ length marks → length keys' ≡ length keys
      → (Passes N C cells clock h es marks m → ⊥) → PassOutcome N C cells clock h es marks keys m None marks' keys'
  bad a b f = record { marks_kept = a; keys_kept = b; pass = λ m' e. absurd (not_passed m' e); fail = λ e. f }
    where
      not_passed : (m' : ℕ) → None ≡ Some m' → ⊥
      not_passed m' e = let z : ◌≡◌ {A = ℕ} 0 1 = cc in omega arith

  pub way_none : (h : ℕ) (es : List Entry) (marks keys : List ℕ) (m : ℕ) → es ≡ [] → ((j : ℕ) → get_or marks j 0 ≤ 1) → m ≤ cells
      → PassOutcome N C cells clock h es marks keys m (Some m) marks keys
  unfolding SoundIn leaves_in nodes_in flat_map times
  way_none h es marks keys m e low few = record {
    marks_kept = refl;
    keys_kept = refl;
    pass = λ m' f. (
      record { sound = rw e (sound_none h); counted = λ j i. absurd (Memᴰ.not-nil (rw (e, nodes_none h) at i)); once = λ j. rw (e, nodes_none h, times_none j) (omega (arith, low j)); room = rw (e, leaves_none h) (omega arith) },
      record {
        more = rw (e, leaves_none h) (omega (arith, same_passed f));
        marked = λ j. rw (e, nodes_none h, times_none j) (omega arith);
        gathered = rw (e, leaves_none h, ← same_passed f) (sym (append-nil (take m keys)));
      },
    );
    fail = λ f. absurd (not_bad f);
  }
    where
      same_passed : {m m' : ℕ} → Some m ≡ Some m' → m ≡ m'
      same_passed f = cc

      not_bad : {m : ℕ} → Some m ≡ None → ⊥
      not_bad f = let z : ◌≡◌ {A = ℕ} 0 1 = cc in omega arith

      sound_none : (h : ℕ) → SoundIn N cells clock h []
      sound_none zero = λ d i. absurd (Memᴰ.not-nil i)
      sound_none (suc h) = λ d i. absurd (Memᴰ.not-nil i)

      leaves_none : (h : ℕ) → leaves_in N h [] ≡ []
      leaves_none zero = refl
      leaves_none (suc h) = refl

      nodes_none : (h : ℕ) → nodes_in N h [] ≡ []
      nodes_none zero = refl
      nodes_none (suc h) = refl

      times_none : (j : ℕ) → times j [] ≡ 0
      times_none j = refl

  -- ---- a leaf's entry
  module _ (e : Entry) (es : List Entry) (marks keys : List ℕ) (m : ℕ) where
    leaf_head : Passes N C cells clock zero (e ∷ es) marks m → CellInRange (cell_of e)
    unfolding SoundIn
    leaf_head p = p.sound e (Memᴰ.head refl)

    leaf_room : Passes N C cells clock zero (e ∷ es) marks m → m < cells
    unfolding leaves_in
    leaf_room p = omega (arith, p.room)

    leaf_rest : Passes N C cells clock zero (e ∷ es) marks m → Passes N C cells clock zero es marks (m + 1)
    unfolding SoundIn leaves_in nodes_in
    leaf_rest p = record {
      sound = λ d i. p.sound d (Memᴰ.tail i);
      counted = p.counted;
      once = p.once;
      room = omega (arith, p.room);
    }

    leaf_more : CellInRange (cell_of e) → Passes N C cells clock zero es marks (m + 1) → Passes N C cells clock zero (e ∷ es) marks m
    unfolding SoundIn leaves_in nodes_in
    leaf_more c p = record {
      sound = λ d i. ⊎_elim (λ q. rw q c) (p.sound d) (Memᴰ.cases_cons i);
      counted = p.counted;
      once = p.once;
      room = omega (arith, p.room);
    }

  way_cell : (h : ℕ) (d : Entry) (es ds : List Entry) (marks keys : List ℕ) (m : ℕ) (r : Option ℕ) (marks' keys' : List ℕ) → h ≡ 0 → es ≡ d ∷ ds → CellInRange (cell_of d) → m < length keys
      → PassOutcome N C cells clock h ds marks (set keys m (key_of d)) (m + 1) r marks' keys' → PassOutcome N C cells clock h es marks keys m r marks' keys'
  way_cell h d es ds marks keys m r marks' keys' z e c lt o = rw (z, e) (by (rw z at o))
    where
      by : PassOutcome N C cells clock zero ds marks (set keys m (key_of d)) (m + 1) r marks' keys' → PassOutcome N C cells clock zero (d ∷ ds) marks keys m r marks' keys'
      by o = record {
        marks_kept = o.marks_kept;
        keys_kept = o.keys_kept ∙ simp length-set;
        pass = λ m' f. let p = o.pass m' f in (leaf_more d ds marks keys m c p.0, leaf_leaves N d ds marks keys m lt m' marks' keys' p.1);
        fail = λ f p. o.fail f (leaf_rest d ds marks keys m p);
      }

  -- ---- an inner entry, and its child
  module _ (h : ℕ) (e : Entry) (es : List Entry) (marks keys : List ℕ) (m : ℕ) where
    inner_head : Passes N C cells clock (suc h) (e ∷ es) marks m → EntrySound N cells clock h e
    unfolding SoundIn
    inner_head p = (p.sound e (Memᴰ.head refl)).0

    inner_counted : Passes N C cells clock (suc h) (e ∷ es) marks m → C (child_of e)
    inner_counted p = p.counted (child_of e) (rw (nodes_cons N h e es) (Memᴰ.append_left (nodes_in N (suc h) es) (Memᴰ.head {xs = nodes_in N h (N (child_of e))} refl)))

    inner_new : Passes N C cells clock (suc h) (e ∷ es) marks m → get_or marks (child_of e) 0 ≡ 0
    inner_new p = omega (arith, p.once (child_of e), nodes_times N h e es (child_of e), ap once_if (eq-eqb (child_of e) (child_of e) refl))

    inner_child : child_of e < length marks → get_or marks (child_of e) 0 ≡ 0 → Passes N C cells clock (suc h) (e ∷ es) marks m → Passes N C cells clock h (N (child_of e)) (set marks (child_of e) 1) m
    unfolding SoundIn
    inner_child lt z p = record {
      sound = sound_in N cells clock h (child_of e) (p.sound e (Memᴰ.head refl)).1;
      counted = λ j i. p.counted j (rw (nodes_cons N h e es) (Memᴰ.append_left (nodes_in N (suc h) es) (Memᴰ.tail i)));
      once = λ j. omega (arith, p.once j, nodes_times N h e es j, mark_put marks (child_of e) j lt z);
      room = omega (arith, p.room, leaves-length N h e es);
    }

    module _ (lt : child_of e < length marks) (z : get_or marks (child_of e) 0 ≡ 0) (m₁ : ℕ) (marks₁ keys₁ : List ℕ) (l : Leaves N h (N (child_of e)) (set marks (child_of e) 1) keys m m₁ marks₁ keys₁) where
      inner_rest : Passes N C cells clock (suc h) (e ∷ es) marks m → Passes N C cells clock (suc h) es marks₁ m₁
      unfolding SoundIn
      inner_rest p = record {
        sound = λ d i. p.sound d (Memᴰ.tail i);
        counted = λ j i. p.counted j (rw (nodes_cons N h e es) (Memᴰ.append_right (child_of e ∷ nodes_in N h (N (child_of e))) i));
        once = λ j. omega (arith, p.once j, nodes_times N h e es j, mark_put marks (child_of e) j lt z, l.marked j);
        room = omega (arith, p.room, leaves-length N h e es, l.more);
      }

      inner_more : EntrySound N cells clock h e → C (child_of e) → Passes N C cells clock h (N (child_of e)) (set marks (child_of e) 1) m → Passes N C cells clock (suc h) es marks₁ m₁
          → Passes N C cells clock (suc h) (e ∷ es) marks m
      unfolding SoundIn
      inner_more s c p q = record {
        sound = λ d i. ⊎_elim (λ f. rw f (s, in_sound N cells clock h (child_of e) p.sound)) (q.sound d) (Memᴰ.cases_cons i);
        counted = λ j i. ⊎_elim (λ f. ⊎_elim (λ g. rw g c) (p.counted j) (Memᴰ.cases_cons f)) (q.counted j) (Memᴰ.append_cases (child_of e ∷ nodes_in N h (N (child_of e))) (rw (nodes_cons N h e es) at i));
        once = λ j. omega (arith, q.once j, nodes_times N h e es j, mark_put marks (child_of e) j lt z, l.marked j);
        room = omega (arith, q.room, leaves-length N h e es, l.more);
      }

  -- in the code's words: the height is not 0, and the child's is one less
  way_child_bad : (h : ℕ) (d : Entry) (es ds : List Entry) (marks keys : List ℕ) (m : ℕ) (marks' keys' : List ℕ) → (h ≡ 0 → ⊥) → es ≡ d ∷ ds → child_of d < length marks → get_or marks (child_of d) 0 ≡ 0
      → PassOutcome N C cells clock (h - 1) (N (child_of d)) (set marks (child_of d) 1) keys m None marks' keys' → PassOutcome N C cells clock h es marks keys m None marks' keys'
  way_child_bad zero d es ds marks keys m marks' keys' z e lt new o = absurd (z refl)
  way_child_bad (suc h) d es ds marks keys m marks' keys' z e lt new o =
      let c = rw (sub-one (suc h)) at o in
      rw e (bad (c.marks_kept ∙ simp length-set) c.keys_kept (λ p. c.fail refl (inner_child h d ds marks keys m lt new p)))

  way_child : (h : ℕ) (d : Entry) (es ds : List Entry) (marks keys : List ℕ) (m m₁ : ℕ) (marks₁ keys₁ : List ℕ) (r : Option ℕ) (marks' keys' : List ℕ) → (h ≡ 0 → ⊥) → es ≡ d ∷ ds
      → EntrySound N cells clock (h - 1) d → C (child_of d) → child_of d < length marks → get_or marks (child_of d) 0 ≡ 0
      → PassOutcome N C cells clock (h - 1) (N (child_of d)) (set marks (child_of d) 1) keys m (Some m₁) marks₁ keys₁
      → PassOutcome N C cells clock h ds marks₁ keys₁ m₁ r marks' keys'
      → PassOutcome N C cells clock h es marks keys m r marks' keys'
  way_child zero d es ds marks keys m m₁ marks₁ keys₁ r marks' keys' z e s c lt new o q = absurd (z refl)
  way_child (suc h) d es ds marks keys m m₁ marks₁ keys₁ r marks' keys' z e s c lt new o q = rw e (by (rw (sub-one (suc h)) at s) (rw (sub-one (suc h)) at o))
    where
      by : EntrySound N cells clock h d → PassOutcome N C cells clock h (N (child_of d)) (set marks (child_of d) 1) keys m (Some m₁) marks₁ keys₁ → PassOutcome N C cells clock (suc h) (d ∷ ds) marks keys m r marks' keys'
      by s o =
          let p = o.pass m₁ refl in
          record {
            marks_kept = q.marks_kept ∙ o.marks_kept ∙ simp length-set;
            keys_kept = q.keys_kept ∙ o.keys_kept;
            pass = λ m' f.
                let k = q.pass m' f in
                (inner_more h d ds marks keys m lt new m₁ marks₁ keys₁ p.1 s c p.0 k.0, inner_leaves N h d ds marks keys m lt new m₁ marks₁ keys₁ p.1 m' marks' keys' k.1);
            fail = λ f k. q.fail f (inner_rest h d ds marks keys m lt new m₁ marks₁ keys₁ p.1 k);
          }

  -- ---- in the words of the calls that test one entry
  pub way_untaken : (h : ℕ) (d : Entry) (es ds : List Entry) (marks keys : List ℕ) (m : ℕ) (r : Bool) (keys₁ : List ℕ) → h ≡ 0 → es ≡ d ∷ ds → EntryTaken cells d keys m r keys₁ → not r ≡ true
      → PassOutcome N C cells clock h es marks keys m None marks keys₁
  way_untaken h d es ds marks keys m r keys₁ z e t f =
      let n = t.refused (not_true f) in
      rw (z, e) (bad refl (ap length n.1) (λ p. n.0 (leaf_head d ds marks keys m p) (leaf_room d ds marks keys m p)))

  pub way_taken : (h : ℕ) (d : Entry) (es ds : List Entry) (marks keys : List ℕ) (m : ℕ) (r : Bool) (keys₁ : List ℕ) (q : Option ℕ) (marks' keys' : List ℕ) → h ≡ 0 → es ≡ d ∷ ds → EntryTaken cells d keys m r keys₁ → not r ≡ false
      → cells ≤ length keys → PassOutcome N C cells clock h ds marks keys₁ (m + 1) q marks' keys' → PassOutcome N C cells clock h es marks keys m q marks' keys'
  way_taken h d es ds marks keys m r keys₁ q marks' keys' z e t f long o =
      let y = t.taken (not_false f) in
      way_cell h d es ds marks keys m q marks' keys' z e y.0 (omega (arith, y.1)) (rw y.2 at o)

  pub way_unentered : (h : ℕ) (d : Entry) (es ds : List Entry) (marks keys : List ℕ) (m : ℕ) (r : Bool) (marks₁ : List ℕ) → (h ≡ 0 → ⊥) → es ≡ d ∷ ds → Entered N C cells clock (h - 1) d marks r marks₁ → not r ≡ true
      → PassOutcome N C cells clock h es marks keys m None marks₁ keys
  way_unentered zero d es ds marks keys m r marks₁ z e t f = absurd (z refl)
  way_unentered (suc h) d es ds marks keys m r marks₁ z e t f =
      let n = t.refused (not_true f) in
      rw e (bad (ap length n.1) refl (λ p. n.0 (rw (sub-one (suc h)) (inner_head h d ds marks keys m p)) (inner_counted h d ds marks keys m p) (inner_new h d ds marks keys m p)))

  pub way_entered_bad : (h : ℕ) (d : Entry) (es ds : List Entry) (marks keys : List ℕ) (m : ℕ) (r : Bool) (marks₁ marks' keys' : List ℕ) → (h ≡ 0 → ⊥) → es ≡ d ∷ ds → Entered N C cells clock (h - 1) d marks r marks₁ → not r ≡ false
      → child_of d < length marks → PassOutcome N C cells clock (h - 1) (N (child_of d)) marks₁ keys m None marks' keys' → PassOutcome N C cells clock h es marks keys m None marks' keys'
  way_entered_bad h d es ds marks keys m r marks₁ marks' keys' z e t f lt o =
      let y = t.entered (not_false f) in
      way_child_bad h d es ds marks keys m marks' keys' z e lt y.2 (rw y.3 at o)

  pub way_entered : (h : ℕ) (d : Entry) (es ds : List Entry) (marks keys : List ℕ) (m m₁ : ℕ) (r : Bool) (marks₀ marks₁ keys₁ : List ℕ) (q : Option ℕ) (marks' keys' : List ℕ) → (h ≡ 0 → ⊥) → es ≡ d ∷ ds → Entered N C cells clock (h - 1) d marks r marks₀ → not r ≡ false
      → child_of d < length marks → PassOutcome N C cells clock (h - 1) (N (child_of d)) marks₀ keys m (Some m₁) marks₁ keys₁
      → PassOutcome N C cells clock h ds marks₁ keys₁ m₁ q marks' keys' → PassOutcome N C cells clock h es marks keys m q marks' keys'
  way_entered h d es ds marks keys m m₁ r marks₀ marks₁ keys₁ q marks' keys' z e t f lt o k =
      let y = t.entered (not_false f) in
      way_child h d es ds marks keys m m₁ marks₁ keys₁ q marks' keys' z e y.0 y.1 lt y.2 (rw y.3 at o) k
