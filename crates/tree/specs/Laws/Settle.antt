-- A root that stays, and an inner root with one entry that gives way to its child.
use Rattle.std.specs.Prelude.{◌≡◌, refl, List, [], ◌∷◌, ℕ, suc, ◌^◌, ◌≤◌, ◌<◌, ℤ, length, get_or, take}
use Rattle.std.proofs.Common.{ap, ◌∙◌, arith, le→leb}
use Rattle.words.specs.Layout.{header, InTable}
use Rattle.words.specs.Words.{nat_of}
use Rattle.words.specs.Laws.Words.{nat_of-pos}
use Rattle.node.specs.Entry.{Entry, child_of}
use Rattle.node.specs.Inner.ChangeAt.{Changed}
use Rattle.table.specs.Header.{capacity, root, height, entries_at}
use Rattle.tree_laws.specs.Laws.Weights.{same_refl, same_as, sound_has, sound_head}
use Rattle.tree_laws.specs.Laws.Moved.{moved_same}
use Rattle.tree_laws.specs.Laws.Regroup.{child_other}
use Rattle.tree_laws.specs.Laws.Root.{way_moved, way_renews}
use Rattle.tree_nodes.specs.Laws.EntryAfresh.{is_node_at}
use Rattle.tree_nodes.specs.Laws.Kept.{ample_in, ample_low, changed_kept, changed_here, changed_others}
use Rattle.table.specs.Inner.Headed.{Rooted}
use Rattle.table.specs.Laws.Headed.{headed_same}
use Rattle.tree_laws.specs.Inner.Wholeness.{Whole}
use Rattle.tree_laws.specs.Laws.Wholeness.{whole_way}
use Rattle.tree_nodes.specs.Inner.PartChild.{child_at}
use Rattle.tree.specs.Inner.Holding.{Stands}
use Rattle.tree.specs.Laws.Holding.{stands_all, stands_then, stands_capacity, stands_ample, kept_stands, headed_stands}
use Rattle.tree.specs.Inner.Settle.{Loose, Settled, Settles}

-- a leaf, and a root with two entries, stay
pub settled_none : {w : List ℤ} → (0 < height w → 2 ≤ length (entries_at w (root w))) → Settles w w
settled_none {w} filled minute l = record {
  holding = record { ample = l.ample; is_minute = l.is_minute; root_in = l.root_in; height_in = l.height_in; whole = l.whole; root_filled = filled };
  stands = stands_all (capacity w) w;
  same_leaves = same_refl;
  renews = λ S new all. all;
}

only_one : (es : List Entry) → length es ≡ 1 → es ≡ get_or es 0 [] ∷ []
only_one [] few = absurd (omega arith)
only_one (e ∷ []) few = refl
only_one (e ∷ f ∷ es) few = absurd (omega arith)

-- any other gives way
module _ {w : List ℤ} {minute : ℤ} (l : Loose w minute) {h : ℕ} (tall : height w ≡ suc h) (few : length (entries_at w (root w)) ≡ 1) {child : ℕ} (is : child ≡ child_at (entries_at w) (root w) 0) where
  abbrev e : Entry
  e = get_or (entries_at w (root w)) 0 []

  only : entries_at w (root w) ≡ e ∷ []
  only = only_one (entries_at w (root w)) few

  before : Whole (capacity w) minute (entries_at w) (suc h) (root w)
  before = rw tall at l.whole

  pub root_in_table : InTable w (root w)
  root_in_table = ample_in l.ample (root w) l.whole.root_in

  child_filled : 3 ≤ length (entries_at w (child_of e))
  child_filled = (sound_head (entries_at w) (capacity w) minute h e [] (sound_has (entries_at w) (capacity w) minute (suc h) (root w) (same_as only) before.sound)).0.filled

  module _ {v : List ℤ} (freed : Changed w (root w) (take 0 (entries_at w (root w))) v) where
    after : Whole (capacity w) minute (entries_at v) h (child_of e)
    after = whole_way before only (changed_here freed) (changed_others freed)

    pub long : header ≤ length v
    long = rw freed.same_length (omega (arith, l.ample.long))

    pub child_low : child < 2 ^ 31
    child_low = rw is (ample_low l.ample (child_of e) after.root_in)

    pub settled_way : {u : List ℤ} → Rooted v child h u → Settled w minute u
    settled_way {u} set-root = record {
      holding = record {
        ample = stands_ample stands l.ample;
        is_minute = l.is_minute;
        root_in = rw (stands_capacity stands, set-root.root_is, is) (is_node_at after.root_in);
        height_in = rw set-root.height_is (record { le = le→leb 0 h (omega arith) });
        whole = rw (stands_capacity stands, same, root_is, height_is) after;
        root_filled = λ inner. rw (same, root_is, child_same) (omega (arith, child_filled));
      };
      stands = stands;
      same_leaves = rw (same, root_is, height_is, tall) (moved_same (way_moved (entries_at w) (entries_at v) h (root w) only before.once (changed_others freed)));
      renews = rw (same, root_is, height_is, tall) (way_renews (entries_at w) (entries_at v) h (root w) only before.once (changed_others freed) minute);
    }
      where
        same : entries_at u ≡ entries_at v
        same = headed_same set-root.headed

        stands : Stands (capacity w) w u
        stands = stands_then (kept_stands (changed_kept freed l.whole.root_in)) (headed_stands set-root.headed set-root.same_capacity)

        root_is : root u ≡ child_of e
        root_is = ap nat_of set-root.root_is ∙ nat_of-pos child ∙ is

        height_is : height u ≡ h
        height_is = ap nat_of set-root.height_is ∙ nat_of-pos h

        child_same : entries_at v (child_of e) ≡ entries_at w (child_of e)
        child_same = changed_others freed (child_of e) apart
          where
            apart : child_of e ≡ root w → ⊥
            apart q = child_other (entries_at w) (entries_at w) (capacity w) minute h (root w) before.once (same_as only) q
