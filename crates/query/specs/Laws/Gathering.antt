-- From what the walk gathered to the hits: sorted, each key is a hit, once, and fits a word.
use Rattle.std.specs.Prelude.{◌≡◌, refl, List, ◌++◌, map, ℕ, ◌^◌, ◌≤◌, ◌<◌, ℤ, pos, length, get_or, take, drop, ◌≤ℤ◌, ◌<ℤ◌}
use Rattle.std.proofs.Common.{sym, ap, ◌∙◌, subst, arith, lt→ltb, leb→le, length-append, length-take-le, get_or-take}
use mathlib.Core.List.Memᴰ
use Rattle.std.proofs.lemmas.List.{map-append, length-map}
use Rattle.std.specs.Int.Signed.{le_z_yes}
use Rattle.whole.specs.Lists.{◌∈◌, NoRepeat}
use Rattle.whole.specs.Laws.Lists.{at_in}
use Rattle.whole.specs.Laws.Order.{≤ℤ_trans}
use Rattle.whole.specs.Rising.{Rising, rising_none, rising_one, rising_more}
use Rattle.whole.specs.Inner.Times.{times}
use Rattle.whole.specs.Laws.Times.{times-append, no_repeat_times, times_no_repeat}
use Rattle.sort.specs.Inner.Sorted.{Sorted}
use Rattle.sort.specs.Laws.Sorted.{sorted_has, sorted_only, sorted_rises, sorted_first}
use Rattle.words.specs.Laws.Words.{pos-nat_of}
use Rattle.track.specs.Meets.{CellMeets}
use Rattle.track.specs.Life.{CellInRange}
use Rattle.track.specs.declared.cell.Cell.{Cell}
use Rattle.track.specs.declared.queries.Query.{Query}
use Rattle.node.specs.Entry.{Entry, cell_of}
use Rattle.table.specs.Header.{capacity, clock, root, height, greatest_capacity, entries_at}
use Rattle.table.specs.Laws.Header.{capacity_low}
use Rattle.table.specs.SoundTree.{leaves_of}
use Rattle.table.specs.Inner.Scan.{key_of}
use Rattle.table.specs.Laws.Scan.{leaves_in_lem, sound_in}
use Rattle.table.specs.Laws.Walk.{walk_from_root}
use Rattle.table.specs.Laws.SoundBy.{cells_in, keys_once}
use Rattle.table.specs.Laws.Counts.{few_nodes}
use Rattle.query.specs.Hits.{Hit, Hits}
use Rattle.query.specs.Laws.Finding.{found_in, found_meets, meets_found, Adds, found_less, opened_less, length_adds}
use Rattle.query.specs.Inner.Opening.{OpensEntries, CanOpen}
use Rattle.query.specs.Inner.Gathering.{CanAsk, Gathered}
use Rattle.query.specs.declared.answer.Found.{Found}

-- before the walk: no hit, and the root opened
abbrev pub only_root : Found
only_root = record { hits = 0; opened = 1 }

rising_pos : {l : List ℕ} → Rising ◌<◌ l → Rising ◌<ℤ◌ (map pos l)
rising_pos rising_none = rising_none
rising_pos rising_one = rising_one
rising_pos (rising_more {x} {y} lt up) = rising_more (record { lt = lt→ltb x y lt }) (rising_pos up)

-- how often a key is found
key_times_adds : (x : ℕ) → Adds (λ (l : List Entry). times x (map key_of l))
unfolding times
key_times_adds x = record { none = refl; append = λ l m. ap (times x) (map-append key_of l m) ∙ times-append x (map key_of l) (map key_of m) }

module _ {w : List ℤ} {q : Query} (a : CanAsk w q) where
  abbrev leaves : List Entry
  leaves = leaves_of (entries_at w) (height w) (root w)

  abbrev found : List Entry
  found = found_in (entries_at w) q (height w) (root w)

  in_range : (e : Entry) → e ∈ leaves → CellInRange (cell_of e)
  in_range e m =
      cells_in (entries_at w) (capacity w) (clock w) (height w) (entries_at w (root w))
      (sound_in (entries_at w) (capacity w) (clock w) (height w) (root w) a.sound.tree) e
      (rw (leaves_in_lem (entries_at w) (height w) (root w)) at m)

  -- ---- what the walk needs at the root
  few_leaves : length leaves ≤ greatest_capacity
  few_leaves = omega (arith, a.sound.few_cells, length-map leaves cell_of, capacity_low a.sound.capacity_in)

  pub can_open_root : (keys : List ℕ) (h i : ℕ) → h ≡ height w → i ≡ root w → greatest_capacity ≤ length keys → CanOpen w q h i 0 keys only_root
  can_open_root keys h i eh ei room =
      rw (eh, ei)
      (record {
        query_in = a.query_in;
        walk = walk_from_root a.sound (height w) (root w) refl refl;
        room = omega (arith, few_leaves, found_less (entries_at w) q length_adds (height w) (root w));
        few_opened = omega (arith, few_leaves, opened_less (entries_at w) q (height w) (root w), few_nodes (entries_at w) (capacity w) (clock w) (height w) (root w) a.sound.tree);
      })

  -- ---- the keys
  keys_once_found : NoRepeat (map key_of found)
  keys_once_found =
      let once = keys_once leaves in_range a.sound.identifiers_once in
      times_no_repeat (map key_of found) (λ x. omega (arith, no_repeat_times once x, found_less (entries_at w) q (key_times_adds x) (height w) (root w)))

  id_is : (e : Entry) → e ∈ leaves → pos (key_of e) ≡ (cell_of e).id
  id_is e m = pos-nat_of (cell_of e).id (≤ℤ_trans (le_z_yes tt) (in_range e m).identifier.from)

  module _ {keys : List ℕ} (s : Sorted (map key_of found) keys) where
    hit_of : (id : ℤ) → id ∈ map pos keys → Hit w q id
    hit_of id m =
        let key = Memᴰ.of_map pos keys m in
        let e = Memᴰ.of_map key_of found (sorted_only s key.0 key.1) in
        let met = found_meets (entries_at w) q (height w) (root w) e.1 in
        record {
          cell = cell_of e.0;
          is_held = Memᴰ.map cell_of met.0;
          has_id = sym (id_is e.0 met.0) ∙ ap pos e.2 ∙ key.2;
          meets = met.1;
        }

    of_hit : (id : ℤ) → Hit w q id → id ∈ map pos keys
    of_hit id h =
        let e = Memᴰ.of_map cell_of leaves h.is_held in
        let met = subst (λ (c : Cell). CellMeets c q) (sym e.2) h.meets in
        let m = meets_found (entries_at w) q (capacity w) (clock w) a.due (height w) (root w) a.sound.tree e.1 met in
        let is : pos (key_of e.0) ≡ id = id_is e.0 e.1 ∙ ap (λ (c : Cell). c.id) e.2 ∙ h.has_id in
        subst (λ (z : ℤ). z ∈ map pos keys) is (Memᴰ.map pos (sorted_has s (key_of e.0) (Memᴰ.map key_of m)))

    sorted_hits : Hits w q (map pos keys)
    sorted_hits = record { rising = rising_pos ((sorted_rises s).0 keys_once_found); only = hit_of; all = of_hit }

  -- ---- the walk from the root, and its keys sorted in place
  module _ {keys : List ℕ} {r : Found} {keys₁ : List ℕ} (o : OpensEntries (entries_at w) q (height w) (entries_at w (root w)) keys only_root r keys₁) (room : greatest_capacity ≤ length keys) where
    pub hits_inside : r.hits ≤ length keys₁
    hits_inside = omega (arith, o.hits, o.keys_kept, few_leaves, found_less (entries_at w) q length_adds (height w) (root w))

    pub gathered_sorted : {sorted : List ℕ} → Sorted (take r.hits keys₁) sorted → Gathered w q r (sorted ++ drop r.hits keys₁)
    gathered_sorted {sorted} s =
        record {
          opened = omega (arith, o.opened);
          inside = omega (arith, length-append sorted (drop r.hits keys₁), s.same_length, length-take-le r.hits keys₁ hits_inside);
          hits = rw (sorted_first keys₁ r.hits hits_inside s) (sorted_hits (rw o.gathered at s));
        }

  -- ---- an identifier is a word
  pub key_small : {r : Found} {keys : List ℕ} → Gathered w q r keys → (i : ℕ) → i < r.hits → get_or keys i 0 < 2 ^ 31
  key_small {r} {keys} g i lt =
      let at = at_in (take r.hits keys) i 0 (omega (arith, length-take-le r.hits keys g.inside)) in
      let h = g.hits.only (pos (get_or (take r.hits keys) i 0)) (Memᴰ.map pos at) in
      let e = Memᴰ.of_map cell_of leaves h.is_held in
      let is : (cell_of e.0).id ≡ pos (get_or keys i 0) = ap (λ (c : Cell). c.id) e.2 ∙ h.has_id ∙ ap pos (get_or-take r.hits keys i 0 lt) in
      let low : pos (get_or keys i 0) ≤ℤ pos 2147483647 = subst (λ (z : ℤ). z ≤ℤ pos 2147483647) is (in_range e.0 e.1).identifier.to in
      omega (arith, leb→le (get_or keys i 0) 2147483647 low.le)
