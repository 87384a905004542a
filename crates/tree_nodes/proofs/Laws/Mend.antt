-- How a node is mended: its child has entries enough, or shares them with a sibling, or is joined to it.
use Rattle.std.specs.Prelude.{◌≡◌, refl, List, [], ◌∷◌, ◌++◌, ℕ, suc, ◌-◌, ◌≤◌, ◌<◌, ℤ, nat_abs, length, get_or, set}
use Rattle.std.proofs.Common.{sym, ap, ◌∙◌, subst, ⊎_elim, arith, length-set}
use mathlib.Core.List.Memᴰ
use Rattle.whole.specs.Lists.{◌∈◌}
use Rattle.words.specs.Layout.{InTable}
use Rattle.track.specs.Inner.HullRange.{BoundsInRangeAt}
use Rattle.node.specs.Entry.{Entry, bounds_of, child_of}
use Rattle.node.specs.Inner.ChangeAt.{Changed}
use Rattle.node.specs.Inner.Made.{InRangeAt}
use Rattle.table.specs.Header.{capacity, nodes_for, entries_at}
use Rattle.table.specs.SoundTree.{Nodes, is_leaf, EntrySound, TreeSound}
use Rattle.table.specs.Laws.Header.{node_below}
use Rattle.tree_laws.specs.Inner.Weights.{SameWeights, visits}
use Rattle.tree_laws.specs.Laws.Weights.{sum_cons, same_refl, same_sym, same_trans, same_as, same_append, same_swap, same_entries, visits_has, visits_child, visits_self, sound_part, sound_head}
use Rattle.node.specs.Inner.Change.{without}
use Rattle.tree_laws.specs.Laws.Places.{at_weights, set_weights, TwoPlaces, two_places}
use Rattle.tree_laws.specs.Laws.Regroup.{Afresh, child_other}
use Rattle.tree_laws.specs.Inner.Used.{Free}
use Rattle.tree_laws.specs.Laws.Used.{no_entries}
use Rattle.tree_nodes.specs.Inner.EntryAfresh.{entry_above, CanRefresh}
use Rattle.tree_nodes.specs.Laws.EntryAfresh.{child_above, above_same, above_afresh, sound_in_range}
use Rattle.tree_nodes.specs.Inner.Kept.{Kept}
use Rattle.tree_nodes.specs.Laws.Kept.{ample_in, ample_low, kept_then, kept-capacity, kept_ample, changed_kept, changed_here, changed_others}
use Rattle.tree_nodes.specs.Inner.Shift.{Shifted, CanShift}
use Rattle.tree_nodes.specs.Laws.Shift.{shifted_left, shifted_then, Dealt}
use Rattle.tree_laws.specs.Laws.TakeOut.{out_refresh, out_into, out_share}
use Rattle.tree_nodes.specs.Inner.PartChild.{child_at}
use Rattle.tree_nodes.specs.Inner.Mend.{CanMend, Mends, CanPair}

module _ {w : List ℤ} {minute : ℤ} {h i k : ℕ} (can : CanMend w minute h i k) {child : ℕ} (is : child ≡ child_at (entries_at w) i k) where
  abbrev N : Nodes
  N = entries_at w

  abbrev cells : ℕ
  cells = capacity w

  pub child_low : child < nodes_for (capacity w)
  child_low = rw is can.child_in

  apart : child ≡ i → ⊥
  apart e = child_other N N cells minute h i can.once (at_weights (N i) k [] can.has) (sym is ∙ e)

  pub child_in_range : InRangeAt (is_leaf h) minute (entries_at w child)
  child_in_range = sound_in_range N cells minute h child can.is_minute (rw is can.child_sound)

  -- ---- a child with enough entries: only its entry is worked out afresh
  pub can_refresh : CanRefresh w i k child
  can_refresh = record {
    in_table = ample_in can.ample i can.node_in;
    low = can.has;
    child_in_table = ample_in can.ample child child_low;
    child_low = ample_low can.ample child child_low;
  }

  pub mends_refresh : {v : List ℤ} → 3 ≤ length (entries_at w child) → Changed w i (set (entries_at w i) k (entry_above (entries_at w) (is_leaf h) minute child)) v → Mends w minute h i k v
  mends_refresh {v} filled changed =
      let e = entry_above N (is_leaf h) minute child in
      let beside : entries_at v child ≡ N child = changed_others changed child apart in
      let has' : SameWeights (entries_at v i) (e ∷ without k (N i)) = rw (changed_here changed) (set_weights (N i) k e can.has) in
      record {
        kept = changed_kept changed can.node_in;
        out = λ N₀ x has once sound p.
            out_refresh cells minute N₀ N (entries_at v) h i has once sound p has' (child_above N (is_leaf h) minute child ∙ is) (changed_others changed)
            (rw (← above_same N (entries_at v) (is_leaf h) minute child beside) (above_afresh (entries_at v) cells minute h child can.is_minute child_low (rw beside filled)));
      }

  -- ---- a child with too few: another child, at place b, is taken with it
  module _ {b : ℕ} (b_has : b < length (entries_at w i)) (places-apart : b ≡ k → ⊥) {sibling : ℕ} (sibling-is : sibling ≡ child_at (entries_at w) i b) where
    places : TwoPlaces (entries_at w i) b k []
    places = two_places (N i) b k [] b_has can.has (λ (e : k ≡ b). places-apart (sym e))

    abbrev e : Entry
    e = get_or (entries_at w i) k []

    abbrev f : Entry
    f = get_or (entries_at w i) b []

    beside : SameWeights (without k (entries_at w i)) (f ∷ places.rest)
    beside = record {
      same = λ φ. omega (arith, places.both.same φ, (at_weights (N i) k [] can.has).same φ, sum_cons φ e (without k (N i)), sum_cons φ f (e ∷ places.rest), sum_cons φ e places.rest, sum_cons φ f places.rest);
    }

    sibling_sound : EntrySound (entries_at w) (capacity w) minute h f × TreeSound (entries_at w) (capacity w) minute h (child_of f)
    sibling_sound = sound_head N cells minute h f places.rest (sound_part N cells minute (suc h) (same_entries (same_sym beside)) can.rest_sound)

    pub sibling_low : sibling < nodes_for (capacity w)
    sibling_low = rw sibling-is (node_below sibling_sound.0.child_in)

    pub sibling_filled : 3 ≤ length (entries_at w sibling)
    sibling_filled = rw sibling-is sibling_sound.0.filled

    pub sibling_in_range : InRangeAt (is_leaf h) minute (entries_at w sibling)
    sibling_in_range = sound_in_range N cells minute h sibling can.is_minute (rw sibling-is sibling_sound.1)

    sibling_apart : sibling ≡ i → ⊥
    sibling_apart q = child_other N N cells minute h i can.once (at_weights (N i) b [] b_has) (sym sibling-is ∙ q)

    -- no node is met twice, so the two are not one
    pub siblings_apart : sibling ≡ child → ⊥
    siblings_apart q =
        let same : child_of f ≡ child_of e = sym sibling-is ∙ q ∙ is in
        omega (
          arith,
          can.once (child_of e),
          visits_has N (child_of e) (suc h) i places.both,
          visits_child N (child_of e) h f (e ∷ places.rest),
          visits_child N (child_of e) h e places.rest,
          visits_self N h (child_of e),
          subst (λ (j : ℕ). 0 < visits j N h (child_of f)) same (visits_self N h (child_of f)),
        )

    -- the entries of the two are dealt out anew
    module _ {v : List ℤ} (d : Dealt (capacity w) w child sibling v) where
      node_same : entries_at v i ≡ entries_at w i
      node_same = d.others i (λ (q : i ≡ child). apart (sym q)) (λ (q : i ≡ sibling). sibling_apart (sym q))

      dealt_in_range : (x : Entry) → x ∈ entries_at v child ++ entries_at v sibling → BoundsInRangeAt (nat_abs minute) (bounds_of (is_leaf h) x)
      dealt_in_range x m = ⊎_elim (child_in_range x) (sibling_in_range x) (Memᴰ.append_cases (N child) (same_entries (same_sym d.all) x m))

      pub sibling_dealt : InRangeAt (is_leaf h) minute (entries_at v sibling)
      sibling_dealt x m = dealt_in_range x (Memᴰ.append_right (entries_at v child) m)

      child_dealt : InRangeAt (is_leaf h) minute (entries_at v child)
      child_dealt x m = dealt_in_range x (Memᴰ.append_left (entries_at v sibling) m)

      pub can_refresh_sibling : CanRefresh v i b sibling
      can_refresh_sibling = record {
        in_table = rw d.kept.same_length (ample_in can.ample i can.node_in);
        low = rw node_same b_has;
        child_in_table = rw d.kept.same_length (ample_in can.ample sibling sibling_low);
        child_low = ample_low can.ample sibling sibling_low;
      }

      -- the sibling's entry is worked out afresh
      module _ {u : List ℤ} (put : Changed v i (set (entries_at v i) b (entry_above (entries_at v) (is_leaf h) minute sibling)) u) where
        abbrev s : Entry
        s = entry_above (entries_at v) (is_leaf h) minute sibling

        node_now : entries_at u i ≡ set (entries_at w i) b s
        node_now = changed_here put ∙ ap (λ (l : List Entry). set l b s) node_same

        long_still : length u ≡ length w
        long_still = put.same_length ∙ d.kept.same_length

        pub node_still : InTable u i
        node_still = rw long_still (ample_in can.ample i can.node_in)

        pub has_still : k < length (entries_at u i)
        has_still = rw (node_now, length-set) can.has

        pub can_refresh_child : CanRefresh u i k child
        can_refresh_child = record {
          in_table = node_still;
          low = has_still;
          child_in_table = rw long_still (ample_in can.ample child child_low);
          child_low = ample_low can.ample child child_low;
        }

        pub child_still : InRangeAt (is_leaf h) minute (entries_at u child)
        child_still = rw (changed_others put child apart) child_dealt

        -- what becomes of node i at last leaves the two as they are
        module _ {x : List ℤ} {es : List Entry} (last : Changed u i es x) where
          kept_over_all : Kept (capacity w) w x
          kept_over_all = kept_then d.kept (kept_then (changed_kept put can.node_in) (changed_kept last can.node_in))

          child_at_last : entries_at x child ≡ entries_at v child
          child_at_last = changed_others last child apart ∙ changed_others put child apart

          sibling_at_last : entries_at x sibling ≡ entries_at v sibling
          sibling_at_last = changed_others last sibling sibling_apart ∙ changed_others put sibling sibling_apart

          others_at_last : (j : ℕ) → (j ≡ i → ⊥) → (j ≡ child_of e → ⊥) → (j ≡ child_of f → ⊥) → entries_at x j ≡ entries_at w j
          others_at_last j p q r =
              changed_others last j p ∙ changed_others put j p ∙ d.others j (λ (c : j ≡ child). q (c ∙ is)) (λ (c : j ≡ sibling). r (c ∙ sibling-is))

          sibling_afresh : 3 ≤ length (entries_at v sibling) → Afresh (entries_at x) (capacity w) minute h s
          sibling_afresh filled =
              rw (← above_same (entries_at v) (entries_at x) (is_leaf h) minute sibling sibling_at_last)
              (above_afresh (entries_at x) cells minute h sibling can.is_minute sibling_low (rw sibling_at_last filled))

        -- both share what they have
        pub mends_share : {x : List ℤ} → 3 ≤ length (entries_at v child) → 3 ≤ length (entries_at v sibling)
            → Changed u i (set (entries_at u i) k (entry_above (entries_at u) (is_leaf h) minute child)) x → Mends w minute h i k x
        mends_share {x} child_filled sibling_filled last =
            let c = entry_above (entries_at u) (is_leaf h) minute child in
            let has' : SameWeights (entries_at x i) (c ∷ s ∷ places.rest) =
            rw (changed_here last, node_now) (same_trans (places.both-set s c) (same_append (same_swap (s ∷ []) (c ∷ [])) (same_refl {l = places.rest}))) in
            let dealt : SameWeights (N (child_of e) ++ N (child_of f)) (entries_at x (child_of e) ++ entries_at x (child_of f)) =
            rw (← is, ← sibling-is, child_at_last last, sibling_at_last last) d.all in
            let c-afresh : Afresh (entries_at x) cells minute h c =
            rw (← above_same (entries_at u) (entries_at x) (is_leaf h) minute child (changed_others last child apart))
            (above_afresh (entries_at x) cells minute h child can.is_minute child_low (rw (child_at_last last) child_filled)) in
            record {
              kept = kept_over_all last;
              out = λ N₀ y has once sound p.
                  out_share cells minute N₀ N (entries_at x) h i has once sound p beside (others_at_last last) has'
                  (child_above (entries_at u) (is_leaf h) minute child ∙ is) (child_above (entries_at v) (is_leaf h) minute sibling ∙ sibling-is) dealt c-afresh (sibling_afresh last sibling_filled);
            }

        -- the sibling has all, and the child is free
        pub mends_join : {x : List ℤ} → Free (entries_at v) child → 3 ≤ length (entries_at v sibling) → Changed u i (without k (entries_at u i)) x → Mends w minute h i k x
        mends_join {x} free sibling_filled last =
            let has' : SameWeights (entries_at x i) (s ∷ places.rest) = rw (changed_here last, node_now) (places.one_out s) in
            let joined : SameWeights (N (child_of f) ++ N (child_of e)) (entries_at x (child_of f)) =
            rw (← is, ← sibling-is, sibling_at_last last) (same_trans (same_swap (N sibling) (N child)) (same_trans d.all (same_as (ap (λ (l : List Entry). l ++ entries_at v sibling) free)))) in
            let freed : Free (entries_at x) (child_of e) = rw (← is) (child_at_last last ∙ free) in
            record {
              kept = kept_over_all last;
              out = λ N₀ y has once sound p.
                  out_into cells minute N₀ N (entries_at x) h i has once sound p beside (others_at_last last) has'
                  (child_above (entries_at v) (is_leaf h) minute sibling ∙ sibling-is) joined freed (sibling_afresh last sibling_filled);
            }

-- ---- two places of a node: the child at the first has too few entries
module _ {w : List ℤ} {minute : ℤ} {h i k b : ℕ} (pair : CanPair w minute h i k b) {child sibling : ℕ} (is : child ≡ child_at (entries_at w) i k) (sibling-is : sibling ≡ child_at (entries_at w) i b) where
  two_left : length (entries_at w child) ≡ 2
  two_left = rw is (omega (arith, pair.few, pair.can.child_left))

  different : sibling ≡ child → ⊥
  different = siblings_apart pair.can is pair.b_has pair.b_other sibling-is

  sibling_has : 3 ≤ length (entries_at w sibling)
  sibling_has = sibling_filled pair.can is pair.b_has pair.b_other sibling-is

  -- the sibling can spare one
  module _ (four : 4 ≤ length (entries_at w sibling)) where
    pub can_borrow : {n : ℕ} → n ≡ length (entries_at w sibling) → CanShift w sibling (n - 1) child
    can_borrow {n} e = record {
      ample = pair.can.ample;
      from_in = sibling_low pair.can is pair.b_has pair.b_other sibling-is;
      to_in = child_low pair.can is;
      apart = λ (q : child ≡ sibling). different (sym q);
      has = omega arith;
      room = omega (arith, two_left);
    }

    pub borrowed : {v : List ℤ} → Shifted (capacity w) w sibling child 1 v → (3 ≤ length (entries_at v child)) × (3 ≤ length (entries_at v sibling))
    borrowed s = (omega (arith, s.more, two_left), omega (arith, shifted_left s))

  -- it cannot
  module _ (three : length (entries_at w sibling) < 4) where
    pub can_give : CanShift w child 1 sibling
    can_give = record {
      ample = pair.can.ample;
      from_in = child_low pair.can is;
      to_in = sibling_low pair.can is pair.b_has pair.b_other sibling-is;
      apart = different;
      has = omega (arith, two_left);
      room = omega arith;
    }

    pub can_give_last : {v : List ℤ} → Shifted (capacity w) w child sibling 1 v → CanShift v child 0 sibling
    can_give_last s = record {
      ample = kept_ample s.kept pair.can.ample;
      from_in = rw (kept-capacity s.kept) (child_low pair.can is);
      to_in = rw (kept-capacity s.kept) (sibling_low pair.can is pair.b_has pair.b_other sibling-is);
      apart = different;
      has = omega (arith, shifted_left s, two_left);
      room = omega (arith, s.more);
    }

    pub given : {v u : List ℤ} → Shifted (capacity w) w child sibling 1 v → Shifted (capacity v) v child sibling 1 u → Shifted (capacity w) w child sibling 2 u
    given s l = shifted_then s l refl

    pub emptied : {u : List ℤ} → Shifted (capacity w) w child sibling 2 u → Free (entries_at u) child × (3 ≤ length (entries_at u sibling))
    emptied {u} s = (no_entries (entries_at u child) (omega (arith, shifted_left s, two_left)), omega (arith, s.more, sibling_has))
