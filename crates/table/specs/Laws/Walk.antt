-- A walk down a sound tree: it can start at the root, and go on to the child of any entry; and the entries of a node one after the other.
use Rattle.std.specs.Prelude.{◌≡◌, refl, List, [], ◌∷◌, ℤ, drop}
use Prim.Native.Nat.{ℕ, zero, suc, ◌+◌, ◌-◌, ◌≤◌, ◌<◌}
use Rattle.std.proofs.Common.{sub-one, arith}
use Rattle.std.proofs.Math.ListN.{drop_of_length-le}
use Rattle.whole.specs.Lists.{◌∈◌}
use Rattle.words.specs.Layout.{node_at, entry_at}
use Rattle.node.specs.Entry.{Entry, child_word, child_of, entry_count, entries_of}
use Rattle.node.specs.Laws.Entry.{entry_in, entries_next, length-entries_of}
use Rattle.table.specs.Header.{capacity, clock, root, height, entries_at}
use Rattle.table.specs.Sound.{Sound}
use Rattle.table.specs.SoundTree.{EntrySound, TreeSound}
use Rattle.table.specs.Inner.Walk.{CanWalk}
use Rattle.table.specs.Laws.ScanParts.{node_in_table}

-- ---- at a node: the entries that are left from entry k on, and the child of entry k
module _ {w : List ℤ} {h i : ℕ} (c : CanWalk w h i) (k : ℕ) where
  abbrev entry : Entry
  entry = entry_at (node_at w i) k

  pub no_entry_left : entry_count (node_at w i) ≤ k → drop k (entries_at w i) ≡ []
  unfolding entries_at
  no_entry_left le = drop_of_length-le (entries_of (node_at w i)) {i = k} (omega (arith, length-entries_of (node_at w i)))

  module _ (low : k < entry_count (node_at w i)) where
    pub entry_left : drop k (entries_at w i) ≡ entry ∷ drop (k + 1) (entries_at w i)
    unfolding entries_at
    entry_left = entries_next (node_at w i) k low

    pub entry_of : entry ∈ entries_at w i
    unfolding entries_at
    entry_of = entry_in (node_at w i) k low

    -- in the code's words: the height is not 0, and the child's is one less
    pub walk_to_child : {j : ℕ} → j ≡ child_of entry → (h ≡ 0 → ⊥) → CanWalk w (h - 1) j
    unfolding TreeSound
    walk_to_child {j} is z = rw is (record {
      long_enough = c.long_enough;
      in_table = node_in_table w (capacity w) (child_of entry) (child_word entry) c.long_enough (below h z c.tree).0.child_in refl;
      tree = (below h z c.tree).1;
    })
      where
        below : (h : ℕ) → (h ≡ 0 → ⊥) → TreeSound (entries_at w) (capacity w) (clock w) h i → EntrySound (entries_at w) (capacity w) (clock w) (h - 1) entry × TreeSound (entries_at w) (capacity w) (clock w) (h - 1) (child_of entry)
        below zero z tree = absurd (z refl)
        below (suc h) z tree = rw (sub-one (suc h)) (tree entry entry_of)

-- ---- from the root of a sound table
pub walk_from_root : {w : List ℤ} → Sound w → (h i : ℕ) → h ≡ height w → i ≡ root w → CanWalk w h i
walk_from_root {w} sound h i eh ei = rw (eh, ei) (record {
  long_enough = sound.long_enough;
  in_table = node_in_table w (capacity w) (root w) _ sound.long_enough sound.root_in refl;
  tree = sound.tree;
})
