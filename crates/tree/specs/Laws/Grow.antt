-- A root with room stays; a full one gets a new root above it and is parted.
use Rattle.std.specs.Prelude.{◌≡◌, refl, Some, List, [], ◌∷◌, ◌++◌, ℕ, suc, ◌+◌, ◌^◌, ◌≤◌, ◌<◌, ℤ, length}
use Rattle.std.proofs.Common.{sym, ap, ◌∙◌, subst, not-suc-le-zero, add-one, arith, le→leb}
use Rattle.words.specs.Layout.{full_node, header, InTable}
use Rattle.words.specs.Words.{nat_of}
use Rattle.words.specs.Laws.Words.{nat_of-pos}
use Rattle.node.specs.Entry.{Entry, child_of}
use Rattle.node.specs.Inner.ChangeAt.{Changed}
use Rattle.node.specs.Inner.Made.{InRangeAt}
use Rattle.table.specs.Header.{capacity, root, height, nodes_for, entries_at}
use Rattle.table.specs.SoundTree.{Nodes, is_leaf, leaves_of}
use Rattle.tree_laws.specs.Inner.Weights.{SameWeights}
use Rattle.tree_laws.specs.Laws.Weights.{same_refl, same_trans, is_node}
use Rattle.tree_laws.specs.Inner.Moved.{no_weight, no_node}
use Rattle.tree_laws.specs.Laws.Moved.{moved_same}
use Rattle.tree_laws.specs.Inner.Used.{Free, used}
use Rattle.tree_laws.specs.Laws.Used.{free_one}
use Rattle.tree_laws.specs.Inner.InnerEntries.{Renews}
use Rattle.tree_laws.specs.Laws.Regroup.{Afresh}
use Rattle.tree_laws.specs.Laws.Root.{grow_moved, grow_renews}
use Rattle.tree_laws.specs.Inner.Climb.{Mended}
use Rattle.tree_nodes.specs.Inner.FirstFree.{FirstFree}
use Rattle.tree_nodes.specs.Laws.FirstFree.{found_free}
use Rattle.tree_nodes.specs.Inner.EntryAfresh.{entry_above}
use Rattle.tree_nodes.specs.Laws.EntryAfresh.{child_above, above_same, above_afresh, sound_in_range, is_node_at}
use Rattle.tree_nodes.specs.Laws.Kept.{ample_in, ample_low, changed_kept, changed_here, changed_others}
use Rattle.table.specs.Inner.Headed.{Rooted}
use Rattle.table.specs.Laws.Headed.{headed_same}
use Rattle.tree_laws.specs.Inner.Wholeness.{Whole}
use Rattle.tree_laws.specs.Laws.Wholeness.{whole_fresh, whole_used, whole_two, whole_grow, grown_used, whole_mended}
use Rattle.tree_nodes.specs.Inner.PartChild.{CanPartChild, Parted}
use Rattle.tree_nodes.proofs.Laws.PartedTree.{many, parted_mended}
use Rattle.tree.specs.Inner.Holding.{leaves, Holding, Stands}
use Rattle.tree.specs.Laws.Holding.{stands_all, stands_then, stands_capacity, stands_ample, kept_stands, headed_stands}
use Rattle.tree_laws.specs.Laws.Tall.{tall}
use Rattle.tree.specs.Inner.Grow.{CanGrow, Grown}

-- a root with room need not grow
pub grown_none : {w : List ℤ} {minute : ℤ} → Holding w minute → length (entries_at w (root w)) < full_node → Grown w minute w
grown_none {w} h room = record { holding = h; stands = stands_all (capacity w) w; same_leaves = same_refl; renews = λ S new all. all; room = room }

module _ {w : List ℤ} {minute : ℤ} (can : CanGrow w minute) where
  abbrev N : Nodes
  N = entries_at w

  abbrev cells : ℕ
  cells = capacity w

  whole : Whole (capacity w) minute (entries_at w) (height w) (root w)
  whole = can.holding.whole

  some : 0 < length (entries_at w (root w))
  some = omega (arith, can.full)

  two_free : used (entries_at w) (nodes_for (capacity w)) + 2 ≤ nodes_for (capacity w)
  two_free = whole_two whole can.few (omega (arith, can.full))

  pub root_in_table : InTable w (root w)
  root_in_table = ample_in can.holding.ample (root w) whole.root_in

  pub root_low : root w < 2 ^ 31
  root_low = ample_low can.holding.ample (root w) whole.root_in

  pub root_in_range : InRangeAt (is_leaf (height w)) minute (entries_at w (root w))
  root_in_range = sound_in_range N cells minute (height w) (root w) can.holding.is_minute whole.sound

  -- the height is far below what a word holds
  pub height_low : height w + 1 < 2 ^ 31
  height_low = omega (arith, tall N cells minute (height w) (root w) whole.sound some, whole_used whole some, two_free, can.holding.ample.few)

  pub spare : (j : ℕ) × (j < nodes_for (capacity w)) × Free (entries_at w) j
  spare = free_one N (nodes_for cells) (omega (arith, two_free))

  module _ {above : ℕ} (first : FirstFree (entries_at w) (nodes_for (capacity w)) (Some above)) where
    above_in : above < nodes_for (capacity w)
    above_in = (found_free first).0

    free : Free (entries_at w) above
    free = (found_free first).1

    apart : root w ≡ above → ⊥
    apart e = omega (arith, some, ap length (subst (Free N) (sym e) free))

    pub above_in_table : InTable w above
    above_in_table = ample_in can.holding.ample above above_in

    pub above_low : above < 2 ^ 31
    above_low = ample_low can.holding.ample above above_in

    pub above_room : length (entries_at w above) < full_node
    above_room = omega (arith, ap length free)

    abbrev e : Entry
    e = entry_above (entries_at w) (is_leaf (height w)) minute (root w)

    module _ {v : List ℤ} (put : Changed w above (entries_at w above ++ e ∷ []) v) where
      only : entries_at v above ≡ e ∷ []
      only = changed_here put ∙ ap (λ (l : List Entry). l ++ e ∷ []) free

      root_same : entries_at v (root w) ≡ entries_at w (root w)
      root_same = changed_others put (root w) apart

      to_root : child_of e ≡ root w
      to_root = child_above N (is_leaf (height w)) minute (root w)

      pub long : header ≤ length v
      long = rw put.same_length (omega (arith, can.holding.ample.long))

      old : Whole (capacity w) minute (entries_at w) (height w) (child_of e)
      old = rw to_root whole

      old_some : 0 < length (entries_at w (child_of e))
      old_some = rw to_root some

      e_afresh : Afresh (entries_at v) (capacity w) minute (height w) e
      e_afresh =
          rw (← above_same N (entries_at v) (is_leaf (height w)) minute (root w) root_same)
          (above_afresh (entries_at v) cells minute (height w) (root w) can.holding.is_minute whole.root_in (rw root_same (omega (arith, can.full))))

      grown_whole : Whole (capacity w) minute (entries_at v) (suc (height w)) above
      grown_whole = whole_grow above old old_some free above_in only (changed_others put) e_afresh

      module _ {u : List ℤ} (set-root : Rooted v above (height w + 1) u) where
        same : entries_at u ≡ entries_at v
        same = headed_same set-root.headed

        stands : Stands (capacity w) w u
        stands = stands_then (kept_stands (changed_kept put above_in)) (headed_stands set-root.headed set-root.same_capacity)

        whole_now : Whole (capacity u) minute (entries_at u) (suc (height w)) above
        whole_now = rw (stands_capacity stands, same) grown_whole

        alone : length (entries_at u above) ≡ 1
        alone = rw (same, only) refl

        pub can_part_root : CanPartChild u minute (height w) above 0
        can_part_root = record {
          ample = stands_ample stands can.holding.ample;
          is_minute = can.holding.is_minute;
          node_in = whole_now.root_in;
          once = whole_now.once;
          sound = whole_now.sound;
          has = omega (arith, alone);
          room = omega (arith, alone);
          full = rw (same, only, to_root, root_same) can.full;
          spare = rw (stands_capacity stands, same) (free_one (entries_at v) (nodes_for cells) (omega (arith, two_free, grown_used above old old_some grown_whole only free (changed_others put))));
        }

        module _ {x : List ℤ} (p : Parted u minute (height w) above 0 x) where
          root_is : root x ≡ above
          root_is = ap nat_of (p.child.kept.same_header 2 (omega arith) ∙ set-root.root_is) ∙ nat_of-pos above

          height_is : height x ≡ suc (height w)
          height_is = ap nat_of (p.child.kept.same_header 3 (omega arith) ∙ set-root.height_is) ∙ nat_of-pos (height w + 1) ∙ add-one (height w)

          mended : Mended (capacity u) minute (entries_at u) (entries_at x) (suc (height w)) above no_weight no_weight (λ j. is_node j p.node) no_node
          mended = parted_mended can.holding.is_minute whole_now.sound can_part_root.has p whole_now.once (whole_fresh whole_now (omega (arith, alone)) p.node p.child.free)

          pub grown : Grown w minute x
          grown = record {
            holding = record {
              ample = stands_ample stands_now can.holding.ample;
              is_minute = can.holding.is_minute;
              root_in = rw (stands_capacity stands_now, p.child.kept.same_header 2 (omega arith), set-root.root_is) (is_node_at above_in);
              height_in = rw (p.child.kept.same_header 3 (omega arith), set-root.height_is) (record { le = le→leb 0 (height w + 1) (omega arith) });
              whole = rw (stands_capacity stands_now, ← stands_capacity stands, root_is, height_is) (whole_mended whole_now mended (λ j none. absurd (not-suc-le-zero none)));
              root_filled = λ inner. rw root_is (omega (arith, two_entries));
            };
            stands = stands_now;
            same_leaves = rw (root_is, height_is) (same_trans (moved_same mended.moved) below);
            renews = rw (root_is, height_is) (λ S new all. mended.renews S new (above_renews S new all));
            room = rw root_is (omega (arith, two_entries));
          }
            where
              stands_now : Stands (capacity w) w x
              stands_now = stands_then stands (kept_stands (rw (stands_capacity stands) at p.child.kept))

              two_entries : length (entries_at x above) ≡ 2
              two_entries = omega (arith, alone, many can.holding.is_minute whole_now.sound can_part_root.has p)

              above_renews : Renews minute (entries_at w) (height w) (root w) (entries_at u) (suc (height w)) above
              above_renews = rw (same, ← to_root) (grow_renews N (entries_at v) (height w) above only (whole_fresh old old_some above free) (changed_others put) minute e_afresh.stamped)

              below : SameWeights (leaves_of (entries_at u) (suc (height w)) above) (leaves w)
              below = rw (same, ← to_root) (moved_same (grow_moved N (entries_at v) (height w) above only (whole_fresh old old_some above free) (changed_others put)))
