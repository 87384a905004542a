-- From a sound table, through the changes of its tree, to the sound table that a call leaves.
use Rattle.std.specs.Prelude.{◌≡◌, refl, ◌⊎◌, List, [], ◌∷◌, ◌++◌, map, ◌≤◌, ◌<◌, ℤ, length, drop, ◌≤ℤ◌}
use Rattle.std.proofs.Common.{sym, ap, ◌∙◌, subst, inl, inr, ⊎_elim, arith, length-append}
use mathlib.Core.List.Memᴰ
use Rattle.std.proofs.lemmas.List.{map-append, length-map}
use Rattle.std.proofs.Math.IntN.{ℤ_discrete}
use Rattle.whole.specs.Lists.{◌∈◌, NoRepeat, no_repeat_cons}
use Rattle.whole.specs.Laws.Lists.{no_repeat_right}
use Rattle.words.specs.Words.{nat_of}
use Rattle.track.specs.Numbers.{IsMinute}
use Rattle.track.specs.Life.{identifier, LivesAt}
use Rattle.track.specs.declared.cell.Cell.{Cell}
use Rattle.node.specs.Entry.{Entry, cell_of, stamp_of}
use Rattle.node.specs.Inner.Made.{leaf_entry}
use Rattle.node.specs.Laws.Made.{cell_leaf}
use Rattle.table.specs.Header.{capacity, clock, root, height, words_for, entries_at}
use Rattle.table.specs.Laws.Header.{capacity_low}
use Rattle.table.specs.Sound.{Sound}
use Rattle.tree_laws.specs.Inner.Weights.{sum_over}
use Rattle.tree_laws.specs.Laws.Weights.{sum_none, sum_cons, sum-append, same_sym, same_length, same_map, same_entries, same_no_repeat}
use Rattle.tree_nodes.specs.Inner.Kept.{Ample}
use Rattle.table.specs.Inner.Headed.{Clocked}
use Rattle.table.specs.Laws.Headed.{same_behind, headed_same}
use Rattle.tree_laws.specs.Laws.Wholeness.{whole_later}
use Rattle.tree.specs.Laws.SoundWhole.{WholeTree, sound_whole, Framed, whole_sound}
use Rattle.tree.specs.Inner.Holding.{leaves, Holding, RenewsAll, Stands}
use Rattle.tree.specs.Laws.Holding.{stands_then, stands_capacity, stands_ample, headed_stands}
use Rattle.tree.specs.Inner.PutCell.{PutCell}
use Rattle.tree_laws.specs.Inner.Goes.{Goes}
use Rattle.tree_laws.specs.Laws.Goes.{living_stays, staying_lives}
use Rattle.tree.specs.Inner.Clear.{Cleared}
use Rattle.tree.specs.Inner.Staying.{stays}
use Rattle.tree.specs.Laws.Staying.{goes_none, stays_one}
use Rattle.tree.specs.Inner.StayingCells.{many_stay}
use Rattle.tree.specs.Steps.{inners, SameBelow, Stays, Step}
use Rattle.table.specs.SoundTree.{InnerEntry}
use Rattle.tree.specs.Laws.Renewed.{renewed_entries}

pub sound_ample : {w : List ℤ} → Sound w → Ample w
sound_ample s = record { few = capacity_low s.capacity_in; long = s.long_enough }

-- a sound table is held at any minute that is not before its clock
pub sound_holding : {w : List ℤ} {minute : ℤ} → Sound w → IsMinute minute → clock w ≤ℤ minute → Holding w minute
sound_holding {w} s is later = record {
  ample = sound_ample s;
  is_minute = is;
  root_in = s.root_in;
  height_in = s.height_in;
  whole = whole_later (sound_whole s) later;
  root_filled = s.root_filled;
}

-- the table that is left where the clock has been set: it is sound, and stands
module _ {w v u : List ℤ} {minute : ℤ} (s : Sound w) (h : Holding v minute) (stood : Stands (capacity w) w v) (set-clock : Clocked v minute u)
    (few : length (leaves v) ≤ capacity w) (once : NoRepeat (map identifier (map cell_of (leaves v)))) where
  same : entries_at u ≡ entries_at v
  same = headed_same set-clock.headed

  pub stands_at_last : Stands (capacity w) w u
  stands_at_last = stands_then stood (headed_stands set-clock.headed set-clock.same_capacity)

  root_same : root u ≡ root v
  root_same = ap nat_of set-clock.same_root

  height_same : height u ≡ height v
  height_same = ap nat_of set-clock.same_height

  pub same_leaves : leaves u ≡ leaves v
  same_leaves = rw (same, root_same, height_same)

  pub sound_at_last : Sound u
  sound_at_last = whole_sound framed tree
    where
      framed : Framed u
      framed = record {
        capacity_in = rw stands_at_last.same_capacity s.capacity_in;
        clock_in = rw set-clock.clock_is h.is_minute;
        long_enough = (stands_ample stands_at_last (sound_ample s)).long;
        root_in = rw (stands_capacity stands_at_last, set-clock.same_root, ← stands_capacity stood) h.root_in;
        height_in = rw set-clock.same_height h.height_in;
        counts_in = rw (stands_capacity stands_at_last) (stands_at_last.still_counted s.counts_in);
        root_filled = λ inner. rw (same, root_same) (h.root_filled (rw height_same at inner));
        few_cells = rw (stands_capacity stands_at_last, same_leaves) (omega (arith, length-map (leaves v) cell_of, few));
        identifiers_once = rw same_leaves once;
      }

      tree : WholeTree u
      tree = rw (set-clock.clock_is, stands_capacity stands_at_last, ← stands_capacity stood, same, root_same, height_same) h.whole

  pub entries_at_last : RenewsAll minute w v → (e : InnerEntry) → e ∈ inners u → (stamp_of e.entry ≡ minute) ⊎ ((e ∈ inners w) × SameBelow w u e)
  entries_at_last renews e m = rw same (renewed_entries w v renews e (rw (same, root_same, height_same) at m))

  pub rest_at_last : drop (words_for (capacity w)) u ≡ drop (words_for (capacity w)) w
  rest_at_last = same_behind w u (words_for (capacity w)) stands_at_last.same_length stands_at_last.same_rest

-- ---- the cells that go have been cleared out, and the clock is set
module _ {w v : List ℤ} {minute id : ℤ} (s : Sound w) (c : Cleared w minute id v) where
  abbrev gone : List Entry
  gone = c.clearing.gone

  pub fewer : length (leaves v) ≤ capacity w
  fewer =
      omega (
        arith,
        same_length c.clearing.parted,
        length-append gone (leaves v),
        length-map (leaves w) cell_of,
        s.few_cells,
      )

  pub still_once : NoRepeat (map identifier (map cell_of (leaves v)))
  still_once =
      let all : NoRepeat (map identifier (map cell_of (gone ++ leaves v))) = same_no_repeat ℤ_discrete (same_map identifier (same_map cell_of c.clearing.parted)) s.identifiers_once in
      no_repeat_right (map identifier (map cell_of gone)) (map identifier (map cell_of (leaves v)))
      (rw (map-append identifier (map cell_of gone) (map cell_of (leaves v))) at (rw (map-append cell_of gone (leaves v)) at all))

  -- a leaf's entry afterwards was there before and stays; one that stays is there afterwards
  pub left_stays : (x : Entry) → x ∈ leaves v → Stays w minute id (cell_of x)
  left_stays x m = record {
    is_held = Memᴰ.map cell_of (same_entries (same_sym c.clearing.parted) x (Memᴰ.append_right gone m));
    lives = staying_lives (cell_of x) (c.all_stay x m);
    other = λ e. c.all_stay x m (inr e);
  }

  pub stays_left : (d : Cell) → Stays w minute id d → d ∈ map cell_of (leaves v)
  stays_left d t =
      let f = Memᴰ.of_map cell_of (leaves w) t.is_held in
      let stay : Goes minute id (cell_of f.0) → ⊥ = λ g. living_stays d t.lives t.other (subst (Goes minute id) f.2 g) in
      subst (λ (y : Cell). y ∈ map cell_of (leaves v)) f.2
      (⊎_elim (λ n. absurd (stay (c.clearing.all_go f.0 n))) (λ n. Memᴰ.map cell_of n) (Memᴰ.append_cases gone (same_entries c.clearing.parted f.0 f.1)))

  -- as many are left as stay
  pub left_many : length (leaves v) ≡ many_stay w minute id
  left_many =
      omega (
        arith,
        c.clearing.parted.same (stays minute id),
        sum-append (stays minute id) gone (leaves v),
        none_of gone c.clearing.all_go,
        all_of (leaves v) c.all_stay,
      )
    where
      none_of : (l : List Entry) → ((x : Entry) → x ∈ l → Goes minute id (cell_of x)) → sum_over (stays minute id) l ≡ 0
      none_of [] each = sum_none (stays minute id)
      none_of (x ∷ l) each = omega (arith, sum_cons (stays minute id) x l, goes_none minute id x (each x (Memᴰ.head refl)), none_of l (λ y m. each y (Memᴰ.tail m)))

      all_of : (l : List Entry) → ((x : Entry) → x ∈ l → Goes minute id (cell_of x) → ⊥) → sum_over (stays minute id) l ≡ length l
      all_of [] each = sum_none (stays minute id)
      all_of (x ∷ l) each = omega (arith, sum_cons (stays minute id) x l, stays_one minute id x (each x (Memᴰ.head refl)), all_of l (λ y m. each y (Memᴰ.tail m)))

  -- a drop's step
  pub drop_step : {u : List ℤ} → Clocked v minute u → Step w u minute (Stays w minute id)
  drop_step {u} set-clock =
      let h = c.clearing.holding in
      let stood = c.clearing.stands in
      let is = same_leaves s h stood set-clock fewer still_once in
      record {
        sound = sound_at_last s h stood set-clock fewer still_once;
        capacity_is = (stands_at_last s h stood set-clock fewer still_once).same_capacity;
        clock_is = set-clock.clock_is;
        live = λ d t. record { is_held = rw is (stays_left d t); in_life = rw set-clock.clock_is t.lives };
        holds = λ d m. let f = Memᴰ.of_map cell_of (leaves v) (rw is at m) in subst (Stays w minute id) f.2 (left_stays f.0 f.1);
        afresh_or_kept = entries_at_last s h stood set-clock fewer still_once c.clearing.renews;
        as_long = (stands_at_last s h stood set-clock fewer still_once).same_length;
        rest_kept = rest_at_last s h stood set-clock fewer still_once;
      }

  -- ---- and a cell has been put in
  module _ {u : List ℤ} (cell : Cell) (id_is : cell.id ≡ id) (room : many_stay w minute id < capacity w) (p : PutCell v minute (leaf_entry cell) u) where
    abbrev x : Entry
    x = leaf_entry cell

    stood_put : Stands (capacity w) w u
    stood_put = stands_then c.clearing.stands (rw (stands_capacity c.clearing.stands) at p.stands)

    fewer_put : length (leaves u) ≤ capacity w
    fewer_put = omega (arith, same_length p.one_more, left_many)

    once_put : NoRepeat (map identifier (map cell_of (leaves u)))
    once_put = same_no_repeat ℤ_discrete (same_map identifier (same_map cell_of (same_sym p.one_more))) (no_repeat_cons new still_once)
      where
        new : identifier (cell_of x) ∈ map identifier (map cell_of (leaves v)) → ⊥
        new m =
            let f = Memᴰ.of_map identifier (map cell_of (leaves v)) m in
            let g = Memᴰ.of_map cell_of (leaves v) f.1 in
            c.all_stay g.0 g.1 (inr (ap identifier g.2 ∙ f.2 ∙ ap identifier (cell_leaf cell) ∙ id_is))

    -- a report's step
    pub report_step : {z : List ℤ} → LivesAt minute cell → Clocked u minute z → Step w z minute (λ d. (d ≡ cell) ⊎ Stays w minute id d)
    report_step {z} lives set-clock =
        let h = p.holding in
        let is = same_leaves s h stood_put set-clock fewer_put once_put in
        record {
          sound = sound_at_last s h stood_put set-clock fewer_put once_put;
          capacity_is = (stands_at_last s h stood_put set-clock fewer_put once_put).same_capacity;
          clock_is = set-clock.clock_is;
          live = λ d n. record { is_held = rw is (left_now d n); in_life = rw set-clock.clock_is (lives_now d n) };
          holds = λ d m. let f = Memᴰ.of_map cell_of (leaves u) (rw is at m) in subst Now f.2 (now_left f.0 f.1);
          afresh_or_kept = entries_at_last s h stood_put set-clock fewer_put once_put (λ S new all. p.renews S new (c.clearing.renews S new all));
          as_long = (stands_at_last s h stood_put set-clock fewer_put once_put).same_length;
          rest_kept = rest_at_last s h stood_put set-clock fewer_put once_put;
        }
      where
        Now : Cell → Type 0
        Now d = (d ≡ cell) ⊎ Stays w minute id d

        now_left : (y : Entry) → y ∈ leaves u → (cell_of y ≡ cell) ⊎ Stays w minute id (cell_of y)
        now_left y m = ⊎_elim (λ (q : y ≡ x). inl (ap cell_of q ∙ cell_leaf cell)) (λ n. inr (left_stays y n)) (Memᴰ.cases_cons (same_entries p.one_more y m))

        left_now : (d : Cell) → (d ≡ cell) ⊎ Stays w minute id d → d ∈ map cell_of (leaves u)
        left_now d n =
            ⊎_elim
            (λ (q : d ≡ cell). subst (λ (y : Cell). y ∈ map cell_of (leaves u)) (cell_leaf cell ∙ sym q) (Memᴰ.map cell_of (same_entries (same_sym p.one_more) x (Memᴰ.head refl))))
            (λ t. let f = Memᴰ.of_map cell_of (leaves v) (stays_left d t) in subst (λ (y : Cell). y ∈ map cell_of (leaves u)) f.2 (Memᴰ.map cell_of (same_entries (same_sym p.one_more) f.0 (Memᴰ.tail f.1))))
            n

        lives_now : (d : Cell) → (d ≡ cell) ⊎ Stays w minute id d → LivesAt minute d
        lives_now d n = ⊎_elim (λ (q : d ≡ cell). subst (LivesAt minute) (sym q) lives) (λ t. t.lives) n
