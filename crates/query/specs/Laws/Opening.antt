-- What one entry leads to, and for each way through the walk what it needs and what it leaves.
use Rattle.std.specs.Prelude.{◌≡◌, ℤ, set, take, drop}
use Rattle.std.proofs.Math.Path.{refl, sym, ap}
use Rattle.std.proofs.Common.{◌∙◌, add-one, sub-one, arith, length-set, take-suc-set}
use Rattle.std.proofs.Math.Bool.{true, false}
use mathlib.Core.List.{List, [], ◌∷◌, ◌++◌, map, map-append, flat_map, append_assoc, append-nil}
use Prim.Native.Nat.{ℕ, zero, suc, ◌+◌, ◌-◌, ◌^◌, ◌≤◌, ◌<◌}
use Rattle.std.proofs.Math.ListN.{length, length-append}
use Rattle.words.specs.Layout.{node_at, entry_at}
use Rattle.track.specs.Laws.Refusals.{not_zero}
use Rattle.track.specs.declared.queries.Query.{Query}
use Rattle.node.specs.Entry.{Entry, child_of, entry_count}
use Rattle.table.specs.Header.{capacity, clock, entries_at}
use Rattle.table.specs.SoundTree.{Nodes, is_leaf, TreeSound}
use Rattle.table.specs.Inner.Scan.{key_of}
use Rattle.table.specs.Laws.Walk.{no_entry_left, entry_left, entry_of, walk_to_child}
use Rattle.table.specs.Laws.Edges.{edges_in, until_in, leaf_edges_in, leaf_until_in}
use Rattle.query.specs.Opened.{EntryMeets, entry_meets?, opened_by}
use Rattle.query.specs.Inner.Finding.{found_by}
use Rattle.query.specs.Laws.Finding.{only_yes, only_no}
use Rattle.query.specs.Inner.Opening.{found_from, opened_from, OpensEntries, CanTest, CanOpen}
use Rattle.query.specs.declared.answer.Found.{Found}

-- the counts with one hit more, and with one node more
abbrev pub one_hit : Found → Found
one_hit f = record { hits = f.hits + 1; opened = f.opened }

abbrev pub one_node : Found → Found
one_node f = record { hits = f.hits; opened = f.opened + 1 }

-- ---- what is found and opened through one entry
module _ (N : Nodes) (q : Query) where
  record Leads (h : ℕ) (d : Entry) (found : List Entry) (opened : List ℕ) : Type 0 where
    by_found : found_by N q h d ≡ found
    by_opened : opened_by N q h d ≡ opened

  leads_nowhere : (h : ℕ) (d : Entry) → (EntryMeets q (is_leaf h) d → ⊥) → Leads h d [] []
  unfolding found_by opened_by
  leads_nowhere zero d n = record { by_found = only_no (entry_meets? q true d) _ n; by_opened = refl }
  leads_nowhere (suc h) d n = record { by_found = only_no (entry_meets? q false d) _ n; by_opened = only_no (entry_meets? q false d) _ n }

  leads_cell : (h : ℕ) (d : Entry) → h ≡ 0 → EntryMeets q (is_leaf h) d → Leads h d (d ∷ []) []
  unfolding found_by opened_by
  leads_cell zero d z m = record { by_found = only_yes (entry_meets? q true d) _ m; by_opened = refl }
  leads_cell (suc h) d z m = not_zero h z

  -- in the code's words: the height is not 0, and the child's is one less
  leads_child : (h : ℕ) (d : Entry) → (h ≡ 0 → ⊥) → EntryMeets q (is_leaf h) d → Leads h d (found_from N q (h - 1) (N (child_of d))) (child_of d ∷ opened_from N q (h - 1) (N (child_of d)))
  unfolding found_by opened_by
  leads_child zero d z m = absurd (z refl)
  leads_child (suc h) d z m = rw (sub-one (suc h)) (record { by_found = only_yes (entry_meets? q false d) _ m; by_opened = only_yes (entry_meets? q false d) _ m })

  module _ {h : ℕ} {d : Entry} {found : List Entry} {opened : List ℕ} (l : Leads h d found opened) (ds : List Entry) where
    found_cons : found_from N q h (d ∷ ds) ≡ found ++ found_from N q h ds
    unfolding flat_map
    found_cons = ap (λ (fs : List Entry). fs ++ found_from N q h ds) l.by_found

    found-length : length (found_from N q h (d ∷ ds)) ≡ length found + length (found_from N q h ds)
    found-length = ap length found_cons ∙ length-append found (found_from N q h ds)

    opened_length : length (opened_from N q h (d ∷ ds)) ≡ length opened + length (opened_from N q h ds)
    unfolding flat_map
    opened_length = ap (λ (js : List ℕ). length (js ++ opened_from N q h ds)) l.by_opened ∙ length-append opened (opened_from N q h ds)

-- ---- the ways through the code, and what each leaves
module _ {N : Nodes} {q : Query} {h : ℕ} {es : List Entry} {keys : List ℕ} {f : Found} where
  pub opens_none : es ≡ [] → OpensEntries N q h es keys f f keys
  unfolding flat_map
  opens_none e = rw e (record { hits = omega arith; opened = omega arith; keys_kept = refl; gathered = sym (append-nil (take f.hits keys)) })

  module _ {d : Entry} {ds : List Entry} (e : es ≡ d ∷ ds) {r : Found} {keys' : List ℕ} where
    pub opens_miss : (EntryMeets q (is_leaf h) d → ⊥) → OpensEntries N q h ds keys f r keys' → OpensEntries N q h es keys f r keys'
    opens_miss n o =
        let l = leads_nowhere N q h d n in
        rw e (record {
          hits = omega (arith, o.hits, found-length N q l ds);
          opened = omega (arith, o.opened, opened_length N q l ds);
          keys_kept = o.keys_kept;
          gathered = o.gathered ∙ rw (found_cons N q l ds);
        })

    -- the key v goes to the first place that is free
    pub opens_hit : {v : ℕ} → v ≡ key_of d → h ≡ 0 → EntryMeets q (is_leaf h) d → f.hits < length keys → OpensEntries N q h ds (set keys f.hits v) (one_hit f) r keys'
        → OpensEntries N q h es keys f r keys'
    opens_hit {v} is_key z m lt o =
        let l = leads_cell N q h d z m in
        rw e (record {
          hits = omega (arith, o.hits, found-length N q l ds);
          opened = omega (arith, o.opened, opened_length N q l ds);
          keys_kept = o.keys_kept ∙ simp length-set;
          gathered =
              o.gathered ∙
              rw (found_cons N q l ds, add-one f.hits, take-suc-set keys f.hits v lt, is_key)
              (append_assoc (take f.hits keys) (key_of d ∷ []) (map key_of (found_from N q h ds)));
        })

    -- j is the child
    pub opens_child : {j : ℕ} {g : Found} {keys₁ : List ℕ} → j ≡ child_of d → (h ≡ 0 → ⊥) → EntryMeets q (is_leaf h) d → OpensEntries N q (h - 1) (N j) keys (one_node f) g keys₁
        → OpensEntries N q h ds keys₁ g r keys' → OpensEntries N q h es keys f r keys'
    opens_child {j} {g} {keys₁} is-child z m o p = rw e (by (rw is-child at o))
      where
        by : OpensEntries N q (h - 1) (N (child_of d)) keys (one_node f) g keys₁ → OpensEntries N q h (d ∷ ds) keys f r keys'
        by o =
            let l = leads_child N q h d z m in
            record {
              hits = omega (arith, o.hits, p.hits, found-length N q l ds);
              opened = omega (arith, o.opened, p.opened, opened_length N q l ds);
              keys_kept = p.keys_kept ∙ o.keys_kept;
              gathered =
                  p.gathered ∙
                  rw (o.gathered, found_cons N q l ds, map-append)
                  (append_assoc (take f.hits keys) (map key_of (found_from N q (h - 1) (N (child_of d)))) (map key_of (found_from N q h ds)));
            }

-- ---- and what each way needs
module _ {w : List ℤ} {q : Query} {h i from : ℕ} {keys : List ℕ} {f : Found} (c : CanOpen w q h i from keys f) where
  abbrev entry : Entry
  entry = entry_at (node_at w i) from

  abbrev rest : List Entry
  rest = drop (from + 1) (entries_at w i)

  module _ (low : from < entry_count (node_at w i)) where
    pub can_test : CanTest q (is_leaf h) entry
    can_test = by h c.walk.tree
      where
        by : (h : ℕ) → TreeSound (entries_at w) (capacity w) (clock w) h i → CanTest q (is_leaf h) entry
        by zero tree = record {
          bounds_in = leaf_edges_in (entries_at w) (capacity w) (clock w) i tree (entry_of c.walk from low);
          until_in = leaf_until_in (entries_at w) (capacity w) (clock w) i tree (entry_of c.walk from low);
          query_in = c.query_in;
        }
        by (suc h) tree = record {
          bounds_in = edges_in (entries_at w) (capacity w) (clock w) h i tree (entry_of c.walk from low);
          until_in = until_in (entries_at w) (capacity w) (clock w) h i tree (entry_of c.walk from low);
          query_in = c.query_in;
        }

    module _ (found : List Entry) (opened : List ℕ) (l : Leads (entries_at w) q h entry found opened) where
      room_with : f.hits + (length found + length (found_from (entries_at w) q h rest)) ≤ length keys
      room_with = omega (arith, rw (entry_left c.walk from low) at c.room, found-length (entries_at w) q l rest)

      few_with : f.opened + (length opened + length (opened_from (entries_at w) q h rest)) < 2 ^ 32
      few_with = omega (arith, rw (entry_left c.walk from low) at c.few_opened, opened_length (entries_at w) q l rest)

      -- the other entries, after this one has led to so much
      onward : (keys₁ : List ℕ) (g : Found) → length keys₁ ≡ length keys → g.hits ≡ f.hits + length found → g.opened ≡ f.opened + length opened
          → CanOpen w q h i (from + 1) keys₁ g
      onward keys₁ g same hits opened = record {
        query_in = c.query_in;
        walk = c.walk;
        room = omega (arith, room_with);
        few_opened = omega (arith, few_with);
      }

    pub can_miss : (EntryMeets q (is_leaf h) entry → ⊥) → CanOpen w q h i (from + 1) keys f
    can_miss n = onward [] [] (leads_nowhere (entries_at w) q h entry n) keys f refl (omega arith) (omega arith)

    module _ (z : h ≡ 0) (m : EntryMeets q (is_leaf h) entry) where
      pub hit_room : f.hits < length keys
      hit_room = omega (arith, room_with (entry ∷ []) [] (leads_cell (entries_at w) q h entry z m))

      pub can_hit : (v : ℕ) → CanOpen w q h i (from + 1) (set keys f.hits v) (one_hit f)
      can_hit v = onward (entry ∷ []) [] (leads_cell (entries_at w) q h entry z m) (set keys f.hits v) (one_hit f) (simp length-set) (omega arith) (omega arith)

    module _ (z : h ≡ 0 → ⊥) (m : EntryMeets q (is_leaf h) entry) where
      leads : Leads (entries_at w) q h entry (found_from (entries_at w) q (h - 1) (entries_at w (child_of entry))) (child_of entry ∷ opened_from (entries_at w) q (h - 1) (entries_at w (child_of entry)))
      leads = leads_child (entries_at w) q h entry z m

      pub node_fits : f.opened + 1 < 2 ^ 32
      node_fits = omega (arith, few_with _ _ leads)

      module _ {j : ℕ} (is-child : j ≡ child_of entry) where
        pub can_child : CanOpen w q (h - 1) j 0 keys (one_node f)
        can_child = record {
          query_in = c.query_in;
          walk = walk_to_child c.walk from low is-child z;
          room = rw is-child (omega (arith, room_with _ _ leads));
          few_opened = rw is-child (omega (arith, few_with _ _ leads));
        }

        pub can_after : {g : Found} {keys₁ : List ℕ} → OpensEntries (entries_at w) q (h - 1) (entries_at w j) keys (one_node f) g keys₁ → CanOpen w q h i (from + 1) keys₁ g
        can_after {g} {keys₁} o = by (rw is-child at o)
          where
            by : OpensEntries (entries_at w) q (h - 1) (entries_at w (child_of entry)) keys (one_node f) g keys₁ → CanOpen w q h i (from + 1) keys₁ g
            by o = onward _ _ leads keys₁ g o.keys_kept o.hits (omega (arith, o.opened))

-- ---- the loop over a node's entries: where those before entry k are tried, what trying those that are left leaves is what trying all leaves
pub record OpensLeft (w : List ℤ) (q : Query) (h i from : ℕ) (keys₀ : List ℕ) (f₀ : Found) (k : ℕ) (keys : List ℕ) (f : Found) : Type 0 where
  pub can : CanOpen w q h i k keys f
  pub rest : (r : Found) (keys' : List ℕ) → OpensEntries (entries_at w) q h (drop k (entries_at w i)) keys f r keys' → OpensEntries (entries_at w) q h (drop from (entries_at w i)) keys₀ f₀ r keys'

module _ {w : List ℤ} {q : Query} {h i from : ℕ} {keys₀ : List ℕ} {f₀ : Found} {k : ℕ} {keys : List ℕ} {f : Found} (l : OpensLeft w q h i from keys₀ f₀ k keys f) {n : List ℤ} {c : ℕ} (is : n ≡ node_at w i) (many : c ≡ entry_count n) where
  pub left_all : c ≤ k → OpensEntries (entries_at w) q h (drop from (entries_at w i)) keys₀ f₀ f keys
  left_all le = l.rest _ _ (opens_none (no_entry_left l.can.walk k (omega (arith, many, ap entry_count is))))

  module _ (lt : k < c) where
    low : k < entry_count (node_at w i)
    low = omega (arith, many, ap entry_count is)

    pub left_test : CanTest q (is_leaf h) (entry_at n k)
    left_test = rw is (can_test l.can low)

    pub left_miss : (EntryMeets q (is_leaf h) (entry_at n k) → ⊥) → OpensLeft w q h i from keys₀ f₀ (k + 1) keys f
    left_miss miss =
        let none = rw is at miss in
        record { can = can_miss l.can low none; rest = λ r keys' o. l.rest r keys' (opens_miss (entry_left l.can.walk k low) none o) }

    module _ (met : EntryMeets q (is_leaf h) (entry_at n k)) where
      module _ (z : h ≡ 0) where
        pub left_room : f.hits < length keys
        left_room = hit_room l.can low z (rw is at met)

        pub left_hit : {v : ℕ} → v ≡ key_of (entry_at n k) → OpensLeft w q h i from keys₀ f₀ (k + 1) (set keys f.hits v) (one_hit f)
        left_hit {v} is_key = record {
          can = can_hit l.can low z (rw is at met) v;
          rest = λ r keys' o. l.rest r keys' (opens_hit (entry_left l.can.walk k low) (rw is at is_key) z (rw is at met) left_room o);
        }

      module _ (z : h ≡ 0 → ⊥) {j : ℕ} (is-child : j ≡ child_of (entry_at n k)) where
        pub left_child_ready : CanOpen w q (h - 1) j 0 keys (one_node f)
        left_child_ready = can_child l.can low z (rw is at met) (rw is at is-child)

        pub left_child : {g : Found} {keys₁ : List ℕ} → OpensEntries (entries_at w) q (h - 1) (entries_at w j) keys (one_node f) g keys₁ → OpensLeft w q h i from keys₀ f₀ (k + 1) keys₁ g
        left_child p = record {
          can = can_after l.can low z (rw is at met) (rw is at is-child) p;
          rest = λ r keys' o. l.rest r keys' (opens_child (entry_left l.can.walk k low) (rw is at is-child) z (rw is at met) p o);
        }
