-- The parts of the soundness test put together: what each of them tells of `Sound`.
use Rattle.std.specs.Prelude.{◌≡◌, refl, ◌⊎◌, Bool, true, false, ◌&&◌, ◌||◌, eqb, leb, ℤ, pos, length, get_or, set, take, replicate}
use Rattle.std.proofs.Common.{sym, ap₂, ◌∙◌, subst, inl, inr, not-suc-le-zero, below_more, arith, leb→le, le→leb, length-set}
use Rattle.std.proofs.Math.Path.{ap}
use Rattle.std.proofs.Math.Logic.{⊎_elim}
use mathlib.Core.List.Memᴰ
use mathlib.Core.List.{List, [], ◌∷◌, map}
use Prim.Native.Nat.{ℕ, zero, suc, ◌+◌, ◌≤◌, ◌<◌}
use Rattle.std.proofs.Math.Decide.{ℕ_discrete}
use Rattle.std.proofs.lemmas.List.{length-map}
use Rattle.std.specs.Int.Signed.{le_z, le_z_yes}
use Rattle.whole.specs.Lists.{◌∈◌, NoRepeat, no_repeat_none, no_repeat_cons}
use Rattle.whole.specs.Tells.{Tells}
use Rattle.whole.specs.Laws.Tells.{tells_as, tells_true, tells_both}
use Rattle.whole.specs.Laws.Lists.{no_repeat_head, no_repeat_tail}
use Rattle.whole.specs.Laws.Order.{≤ℤ_trans, le_z_tells}
use Rattle.whole.specs.Inner.Times.{times, once_if}
use Rattle.whole.specs.Laws.Times.{times_in, in_times, no_repeat_times, times_no_repeat}
use Rattle.words.specs.Layout.{node_at}
use Rattle.words.specs.Laws.Words.{pos-nat_of}
use Rattle.track.specs.Numbers.{IsMinute}
use Rattle.track.specs.Life.{identifier, CellInRange}
use Rattle.track.specs.declared.cell.Cell.{Cell}
use Rattle.node.specs.Entry.{Entry, cell_of, child_of, entry_count_word, IsCount}
use Rattle.table.specs.Header.{capacity_word, capacity, clock, root_word, root, height_word, height, IsCapacity, IsNode, nodes_for, words_for, entries_at, greatest_capacity}
use Rattle.table.specs.Laws.Header.{capacity_low, node_below}
use Rattle.table.specs.SoundTree.{Nodes, leaves_of, nodes_of, EntrySound, TreeSound}
use Rattle.table.specs.Laws.Reach.{flat_in}
use Rattle.table.specs.Sound.{reached, held, Sound}
use Rattle.table.specs.Laws.ScanParts.{leaf_test}
use Rattle.table.specs.Inner.Ready.{Ready}
use Rattle.table.specs.Inner.Scan.{leaves_in, nodes_in, SoundIn, key_of, NodeCounted, Passes, Leaves}
use Rattle.table.specs.Laws.Scan.{leaves_in_lem, nodes_in_lem, sound_in, in_sound, mark_put}
use Rattle.table.specs.Inner.SoundBy.{TableHeaderSound, RootSound, RootMarked, FreeUnless, FreeTo, RestFree, Clear}

-- ---- what the tests of the header and of the root tell
pub header_tells : (w : List ℤ) {capacity_in clock_in root_in : Bool} {words : ℕ} → Tells capacity_in (IsCapacity (capacity_word w)) → Tells clock_in (IsMinute (clock w)) → words ≡ words_for (capacity w)
    → Tells root_in (IsNode (capacity w) (root_word w)) → Tells (((capacity_in && clock_in) && leb words (length w)) && (root_in && le_z (pos 0) (height_word w))) (TableHeaderSound w)
header_tells w {words} c m e r =
    tells_as (tells_both (tells_both (tells_both c m) enough) (tells_both r le_z_tells))
    (λ p. record { capacity_in = p.0.0.0; clock_in = p.0.0.1; long_enough = p.0.1; root_in = p.1.0; height_in = p.1.1 })
    (λ h. (((h.capacity_in, h.clock_in), h.long_enough), (h.root_in, h.height_in)))
  where
    enough : Tells (leb words (length w)) (words_for (capacity w) ≤ length w)
    enough = record { sure = λ t. omega (arith, leb→le words (length w) t); seen = λ l. le→leb words (length w) (omega arith) }

pub root_tells : (w : List ℤ) {counted : Bool} {h n : ℕ} → Tells counted (IsCount (entry_count_word (node_at w (root w)))) → h ≡ height w → n ≡ length (entries_at w (root w))
    → Tells (counted && (eqb h 0 || leb 2 n)) (RootSound w)
root_tells w {h} {n} c e f = tells_as (tells_both c (filled_tells h)) (λ p. record { counted = p.0; filled = λ tall. p.1 (omega arith) }) (λ r. (r.counted, λ tall. r.filled (omega arith)))
  where
    filled_tells : (h : ℕ) → Tells (eqb h 0 || leb 2 n) (0 < h → 2 ≤ length (entries_at w (root w)))
    filled_tells zero = tells_true (λ tall. omega arith)
    filled_tells (suc h) = rw (leaf_test (suc h)) (record { sure = λ t tall. omega (arith, leb→le 2 n t); seen = λ g. le→leb 2 n (omega (arith, g (omega arith))) })

-- ---- what is reached is in range
module _ (N : Nodes) (cells : ℕ) (clock : ℤ) where
  pub nodes_below : (h : ℕ) (es : List Entry) → SoundIn N cells clock h es → (j : ℕ) → j ∈ nodes_in N h es → j < nodes_for cells
  unfolding SoundIn nodes_in
  nodes_below zero es s j i = absurd (Memᴰ.not-nil i)
  nodes_below (suc h) es s j i =
      let f = flat_in (λ e. nodes_of N h (child_of e)) es i in
      let t = s f.0 f.1 in
      by (nodes_below h) f.0 t (rw (nodes_in_lem N h (child_of f.0)) at f.2)
    where
      by : ((es : List Entry) → SoundIn N cells clock h es → (j : ℕ) → j ∈ nodes_in N h es → j < nodes_for cells) → (e : Entry) → EntrySound N cells clock h e × TreeSound N cells clock h (child_of e) → j ∈ child_of e ∷ nodes_in N h (N (child_of e)) → j < nodes_for cells
      by again e t i =
          ⊎_elim (λ q. rw q (node_below t.0.child_in)) (λ k. again (N (child_of e)) (sound_in N cells clock h (child_of e) t.1) j k) (Memᴰ.cases_cons i)

  pub cells_in : (h : ℕ) (es : List Entry) → SoundIn N cells clock h es → (e : Entry) → e ∈ leaves_in N h es → CellInRange (cell_of e)
  unfolding SoundIn leaves_in
  cells_in zero es s e i = s e i
  cells_in (suc h) es s e i =
      let f = flat_in (λ d. leaves_of N h (child_of d)) es i in
      cells_in h (N (child_of f.0)) (sound_in N cells clock h (child_of f.0) (s f.0 f.1).1) e (rw (leaves_in_lem N h (child_of f.0)) at f.2)

-- the cells of a sound table keep their ranges
pub held_in : {w : List ℤ} → Sound w → {c : Cell} → c ∈ held w → CellInRange c
held_in {w} s m = let e = Memᴰ.of_map cell_of (leaves_of (entries_at w) (height w) (root w)) m in subst CellInRange e.2 (of_leaf e.0 e.1)
  where
    of_leaf : (e : Entry) → e ∈ leaves_of (entries_at w) (height w) (root w) → CellInRange (cell_of e)
    of_leaf e i =
        cells_in (entries_at w) (capacity w) (clock w) (height w) (entries_at w (root w)) (sound_in (entries_at w) (capacity w) (clock w) (height w) (root w) s.tree) e
        (rw (leaves_in_lem (entries_at w) (height w) (root w)) at i)

-- ---- identifiers as keys
abbrev id_of : Entry → ℤ
id_of e = (cell_of e).id

keys_ids : (l : List Entry) → ((e : Entry) → e ∈ l → CellInRange (cell_of e)) → map pos (map key_of l) ≡ map identifier (map cell_of l)
keys_ids [] f = refl
keys_ids (e ∷ l) f =
    ap₂ (λ (z : ℤ) (zs : List ℤ). z ∷ zs)
    (pos-nat_of (id_of e) (≤ℤ_trans (le_z_yes tt) (f e (Memᴰ.head refl)).identifier.from))
    (keys_ids l (λ d i. f d (Memᴰ.tail i)))

no_repeat_map : {A B : Type 0} (f : A → B) → ((x y : A) → f x ≡ f y → x ≡ y) → {l : List A} → NoRepeat l → NoRepeat (map f l)
no_repeat_map f inj no_repeat_none = no_repeat_none
no_repeat_map {A} f inj (no_repeat_cons {x} {l} new once) = no_repeat_cons (λ i. new (back i)) (no_repeat_map f inj once)
  where
    back : f x ∈ map f l → x ∈ l
    back i = let r = Memᴰ.of_map f l i in subst (λ (y : A). y ∈ l) (inj r.0 x r.2) r.1

map_no_repeat : {A B : Type 0} (f : A → B) (l : List A) → NoRepeat (map f l) → NoRepeat l
map_no_repeat f [] n = no_repeat_none
map_no_repeat f (x ∷ l) n = no_repeat_cons (λ i. no_repeat_head n (Memᴰ.map f i)) (map_no_repeat f l (no_repeat_tail n))

pos_same : (m n : ℕ) → pos m ≡ pos n → m ≡ n
pos_same m n e = cc

-- no identifier is held twice exactly when no key is
ids_once : (l : List Entry) → ((e : Entry) → e ∈ l → CellInRange (cell_of e)) → NoRepeat (map key_of l) → NoRepeat (map identifier (map cell_of l))
ids_once l f n = subst NoRepeat (keys_ids l f) (no_repeat_map pos pos_same n)

pub keys_once : (l : List Entry) → ((e : Entry) → e ∈ l → CellInRange (cell_of e)) → NoRepeat (map identifier (map cell_of l)) → NoRepeat (map key_of l)
keys_once l f n = map_no_repeat pos (map key_of l) (subst NoRepeat (sym (keys_ids l f)) n)

-- ---- the test's parts and `Sound`
module _ (w : List ℤ) where
  pub header_is_sound : Sound w → TableHeaderSound w
  header_is_sound s = record { capacity_in = s.capacity_in; clock_in = s.clock_in; long_enough = s.long_enough; root_in = s.root_in; height_in = s.height_in }

  pub root_of : Sound w → RootSound w
  root_of s = record { counted = s.counts_in (root w) (node_below s.root_in); filled = s.root_filled }

  reached-times : (j : ℕ) → times j (reached w) ≡ once_if (eqb j (root w)) + times j (nodes_in (entries_at w) (height w) (entries_at w (root w)))
  unfolding times
  reached-times j = ap (times j) (nodes_in_lem (entries_at w) (height w) (root w))

  leaves_held : length (held w) ≡ length (leaves_in (entries_at w) (height w) (entries_at w (root w)))
  leaves_held = length-map (leaves_of (entries_at w) (height w) (root w)) cell_of ∙ ap length (leaves_in_lem (entries_at w) (height w) (root w))

  -- ---- a sound table passes
  pub passes_of : (marks : List ℕ) → RootMarked w marks → Sound w → Passes (entries_at w) (NodeCounted w) (capacity w) (clock w) (height w) (entries_at w (root w)) marks 0
  passes_of marks k s =
      let t = sound_in (entries_at w) (capacity w) (clock w) (height w) (root w) s.tree in
      record {
        sound = t;
        counted = λ j i. s.counts_in j (nodes_below (entries_at w) (capacity w) (clock w) (height w) (entries_at w (root w)) t j i);
        once = λ j. omega (arith, k.marked j, reached-times j, no_repeat_times s.reached_once j);
        room = omega (arith, s.few_cells, leaves_held);
      }

  pub free_none : (marks : List ℕ) → FreeTo w marks 0
  free_none marks = record { free = λ i h. absurd (not-suc-le-zero h) }

  pub free_more : (marks : List ℕ) (n : ℕ) → FreeTo w marks n → FreeUnless w (get_or marks n 0) n → FreeTo w marks (n + 1)
  free_more marks n f g = record { free = below_more (λ (i : ℕ). FreeUnless w (get_or marks i 0) i) n f.free g }

  module _ (marks : List ℕ) (k : RootMarked w marks) (keys : List ℕ) (m : ℕ) (marks' keys' : List ℕ)
      (p : Passes (entries_at w) (NodeCounted w) (capacity w) (clock w) (height w) (entries_at w (root w)) marks 0)
      (l : Leaves (entries_at w) (height w) (entries_at w (root w)) marks keys 0 m marks' keys') where
    marked-times : (j : ℕ) → get_or marks' j 0 ≡ times j (reached w)
    marked-times j = omega (arith, l.marked j, k.marked j, reached-times j)

    gathered_keys : take m keys' ≡ map key_of (leaves_of (entries_at w) (height w) (root w))
    gathered_keys = l.gathered ∙ ap (map key_of) (sym (leaves_in_lem (entries_at w) (height w) (root w)))

    in_cells : (e : Entry) → e ∈ leaves_of (entries_at w) (height w) (root w) → CellInRange (cell_of e)
    in_cells e i = cells_in (entries_at w) (capacity w) (clock w) (height w) (entries_at w (root w)) p.sound e (rw (leaves_in_lem (entries_at w) (height w) (root w)) at i)

    pub free_of : Sound w → RestFree w marks'
    free_of s = record {
      free = λ i lt z. ⊎_elim (λ e. e) (λ r. absurd (not_met i z r)) (s.free_or_reached i lt);
    }
      where
        not_met : (i : ℕ) → get_or marks' i 0 ≡ 0 → i ∈ reached w → ⊥
        not_met i z r = omega (arith, marked-times i, in_times r)

    pub keys_of : Sound w → NoRepeat (take m keys')
    keys_of s = subst NoRepeat (sym gathered_keys) (keys_once (leaves_of (entries_at w) (height w) (root w)) in_cells s.identifiers_once)

    pub sound_of : TableHeaderSound w → RootSound w → RestFree w marks' → NoRepeat (take m keys') → Sound w
    sound_of h r f n = record {
      capacity_in = h.capacity_in;
      clock_in = h.clock_in;
      long_enough = h.long_enough;
      root_in = h.root_in;
      height_in = h.height_in;
      counts_in = counts;
      root_filled = r.filled;
      tree = in_sound (entries_at w) (capacity w) (clock w) (height w) (root w) p.sound;
      reached_once = times_no_repeat (reached w) (λ j. omega (arith, p.once j, k.marked j, reached-times j));
      free_or_reached = free_or;
      few_cells = omega (arith, p.room, leaves_held);
      identifiers_once = ids_once (leaves_of (entries_at w) (height w) (root w)) in_cells (subst NoRepeat gathered_keys n);
    }
      where
        free_or : (i : ℕ) → i < nodes_for (capacity w) → (entry_count_word (node_at w i) ≡ pos 0) ⊎ (i ∈ reached w)
        free_or i lt = by (ℕ_discrete (get_or marks' i 0) 0)
          where
            by : Dec (get_or marks' i 0 ≡ 0) → (entry_count_word (node_at w i) ≡ pos 0) ⊎ (i ∈ reached w)
            by (yes z) = inl (f.free i lt z)
            by (no z) = inr (times_in (reached w) (omega (arith, marked-times i)))

        counts : (i : ℕ) → i < nodes_for (capacity w) → IsCount (entry_count_word (node_at w i))
        counts i lt = ⊎_elim (λ z. rw z (record { from = le_z_yes tt; to = le_z_yes tt })) met (free_or i lt)
          where
            met : i ∈ reached w → IsCount (entry_count_word (node_at w i))
            met q = ⊎_elim (λ e. rw e r.counted) (p.counted i) (Memᴰ.cases_cons (rw (nodes_in_lem (entries_at w) (height w) (root w)) at q))

module _ {w : List ℤ} {marks keys : List ℕ} (h : TableHeaderSound w) (c : Clear marks keys) where
  pub few_cells : capacity w ≤ greatest_capacity
  few_cells = capacity_low h.capacity_in

  pub root_below : root w < length marks
  root_below = omega (arith, node_below h.root_in, few_cells, c.marks_long)

  pub root-marked : RootMarked w (set marks (root w) 1)
  root-marked = record { marked = λ j. mark_put marks (root w) j root_below (c.none (root w)) ∙ rw (c.none j) (omega arith) }

  pub ready_root : Ready w (capacity w) (root w) (set marks (root w) 1) keys 0
  ready_root = record {
    long = h.long_enough;
    node_in = node_below h.root_in;
    marks_long = rw (length-set marks (root w) 1) (omega (arith, few_cells, c.marks_long));
    keys_long = omega (arith, few_cells, c.keys_long);
    low = λ j. omega (arith, root-marked.marked j, once_low (eqb j (root w)));
    room = omega arith;
  }
    where
      once_low : (t : Bool) → once_if t ≤ 1
      once_low true = omega arith
      once_low false = omega arith

pub zeros : (n j : ℕ) → ◌≡◌ {A = ℕ} (get_or (replicate n 0) j 0) 0
zeros zero j = refl
zeros (suc n) zero = refl
zeros (suc n) (suc j) = zeros n j
