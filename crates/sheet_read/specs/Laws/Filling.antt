-- The cells of a sheet put into a fresh table one after the other: what holds after each, and that the table is read in the end.
use Rattle.std.specs.Prelude.{◌≡◌, refl, List, [], ◌∷◌, ◌++◌, map, ℕ, suc, ◌+◌, ◌-◌, ◌≤◌, ◌<◌, ℤ, length}
use Rattle.std.proofs.Common.{ap, ap₂, ◌∙◌, subst, append-nil, ⊎_elim, arith, length-append}
use mathlib.Core.List.Memᴰ
use Rattle.std.proofs.Math.IntN.{ℤ_discrete}
use Rattle.std.proofs.lemmas.List.{length-map}
use Rattle.whole.specs.Lists.{◌∈◌, NoRepeat}
use Rattle.whole.specs.Laws.Rising.{<ℤ_no_repeat}
use Rattle.words.specs.Words.{nat_of}
use Rattle.track.specs.Life.{identifier, CellInRange}
use Rattle.track.specs.declared.cell.Cell.{Cell}
use Rattle.node.specs.Entry.{Entry, cell_of}
use Rattle.node.specs.Inner.Made.{leaf_entry}
use Rattle.node.specs.Laws.Made.{cell_leaf}
use Rattle.table.specs.Header.{capacity}
use Rattle.table.specs.Fresh.{IsFresh}
use Rattle.table.specs.Sound.{held}
use Rattle.tree_laws.specs.Inner.Weights.{SameWeights}
use Rattle.tree_laws.specs.Laws.Weights.{sum-append, sum_cons, same_sym, same_length, same_map, same_entries, same_no_repeat}
use Rattle.table.specs.Inner.Headed.{Clocked}
use Rattle.tree.specs.Inner.Holding.{leaves, Holding, RenewsAll, Stands}
use Rattle.tree.specs.Laws.Holding.{stands_all, stands_then, stands_capacity}
use Rattle.tree.specs.Laws.Renewed.{no_inner}
use Rattle.tree.specs.Inner.PutCell.{HasRoom, PutCell}
use Rattle.tree.specs.Laws.Stepping.{sound_holding, sound_at_last, entries_at_last, stands_at_last, same_leaves, rest_at_last}
use Rattle.sheet.specs.Sheet.{record_count, clock_of, cell_at, cells_of}
use Rattle.sheet.specs.Inner.Records.{left_from}
use Rattle.sheet.specs.Laws.Records.{all_left, next_left, none_are_left}
use Rattle.sheet.specs.Laws.Sheet.{length-cells_from}
use Rattle.sheet_read.specs.Reads.{IsRead}
use Rattle.sheet_read.specs.Inner.ReadingSteps.{CanRead}
use Rattle.sheet_read.specs.Inner.Filling.{CanFill, Filled}

-- those before record k are put in: with the entries of those that are left, the leaves have all of them
pub record Filling (w : List ℤ) (bytes : List ℕ) (minute : ℤ) (k : ℕ) (v : List ℤ) : Type 0 where
  pub upto : k ≤ record_count bytes
  pub holding : Holding v minute
  pub stands : Stands (capacity w) w v
  pub entries : SameWeights (leaves v ++ map leaf_entry (left_from bytes k)) (map leaf_entry (cells_of bytes))
  pub renews : RenewsAll minute w v
  pub left : (c : Cell) → c ∈ left_from bytes k → c ∈ cells_of bytes

module _ {w : List ℤ} {bytes : List ℕ} {minute : ℤ} (can : CanFill w bytes minute) where
  pub filling_none : Filling w bytes minute 0 w
  filling_none = record {
    upto = omega arith;
    holding = can.holding;
    stands = stands_all (capacity w) w;
    entries = rw (all_left bytes, can.none_yet) (record { same = λ φ. refl });
    renews = λ S new all. all;
    left = λ c m. rw (all_left bytes) at m;
  }

  module _ {k : ℕ} {v : List ℤ} (so_far : Filling w bytes minute k v) where
    many_left : length (leaves v) + (record_count bytes - k) ≡ record_count bytes
    many_left =
        omega (
          arith,
          same_length so_far.entries,
          length-append (leaves v) (map leaf_entry (left_from bytes k)),
          length-map (left_from bytes k) leaf_entry,
          length-map (cells_of bytes) leaf_entry,
          length-cells_from bytes k (record_count bytes - k),
          length-cells_from bytes 0 (record_count bytes),
        )

    module _ (low : k < record_count bytes) where
      pub has_room : HasRoom v minute
      has_room = record { holding = so_far.holding; few = rw (stands_capacity so_far.stands) (omega (arith, many_left, can.few)) }

      pub next_in_range : CellInRange (cell_at bytes k)
      next_in_range = can.in_range (cell_at bytes k) (so_far.left (cell_at bytes k) (rw (next_left bytes k low) (Memᴰ.head refl)))

      pub filling_next : {u : List ℤ} → PutCell v minute (leaf_entry (cell_at bytes k)) u → Filling w bytes minute (k + 1) u
      filling_next {u} p = record {
        upto = omega arith;
        holding = p.holding;
        stands = stands_then so_far.stands (rw (stands_capacity so_far.stands) at p.stands);
        entries = record { same = λ φ. omega (arith, p.one_more.same φ, sum_cons φ x (leaves v), sum-append φ (leaves u) rest, was.same φ, sum-append φ (leaves v) (x ∷ rest), sum_cons φ x rest) };
        renews = λ S new all. p.renews S new (so_far.renews S new all);
        left = λ c m. so_far.left c (rw (next_left bytes k low) (Memᴰ.tail m));
      }
        where
          x : Entry
          x = leaf_entry (cell_at bytes k)

          rest : List Entry
          rest = map leaf_entry (left_from bytes (k + 1))

          was : SameWeights (leaves v ++ (leaf_entry (cell_at bytes k) ∷ map leaf_entry (left_from bytes (k + 1)))) (map leaf_entry (cells_of bytes))
          was = rw (next_left bytes k low) at so_far.entries

    pub filled : record_count bytes ≤ k → Filled w bytes minute v
    filled le = record { holding = so_far.holding; stands = so_far.stands; entries = rw append-nil at (rw (none_are_left bytes k le) at so_far.entries); renews = so_far.renews }

-- ---- from the fresh table to the one that was read
map_back : (l : List Cell) → map cell_of (map leaf_entry l) ≡ l
map_back [] = refl
map_back (c ∷ l) = ap₂ (λ (d : Cell) (m : List Cell). d ∷ m) (cell_leaf c) (map_back l)

no_leaves : (l : List Entry) → map cell_of l ≡ [] → l ≡ []
no_leaves [] e = refl
no_leaves (x ∷ l) e = absurd (some (ap length e))
  where
    some : suc (length (map cell_of l)) ≡ 0 → ⊥
    some z = omega arith

module _ {cells : ℤ} {w : List ℤ} {bytes : List ℕ} (can : CanRead cells w bytes) {v : List ℤ} (f : IsFresh cells w v) where
  capacity_same : capacity v ≡ nat_of cells
  capacity_same = ap nat_of f.capacity_is

  pub can_fill : CanFill v bytes (clock_of bytes)
  can_fill = record {
    holding = sound_holding f.sound can.well_formed.header.clock_in (rw f.clock_is can.well_formed.header.clock_in.from);
    none_yet = no_leaves (leaves v) f.none_held;
    in_range = can.well_formed.records.in_range;
    few = rw capacity_same can.few;
  }

  module _ {u t : List ℤ} (fill : Filled v bytes (clock_of bytes) u) (set-clock : Clocked u (clock_of bytes) t) where
    few : length (leaves u) ≤ capacity v
    few = omega (arith, same_length fill.entries, length-map (cells_of bytes) leaf_entry, length-cells_from bytes 0 (record_count bytes), can_fill.few)

    once : NoRepeat (map identifier (map cell_of (leaves u)))
    once =
        let sheet : NoRepeat (map identifier (map cell_of (map leaf_entry (cells_of bytes)))) = rw (map_back (cells_of bytes)) (<ℤ_no_repeat can.well_formed.records.rising) in
        same_no_repeat ℤ_discrete (same_map identifier (same_map cell_of (same_sym fill.entries))) sheet

    abbrev at_last : Stands (capacity v) v t
    at_last = stands_at_last f.sound fill.holding fill.stands set-clock few once

    held_is : held t ≡ map cell_of (leaves u)
    held_is = ap (map cell_of) (same_leaves f.sound fill.holding fill.stands set-clock few once)

    of_the_sheet : (c : Cell) → c ∈ map cell_of (leaves u) → c ∈ cells_of bytes
    of_the_sheet c m =
        let e = Memᴰ.of_map cell_of (leaves u) m in
        let there = Memᴰ.map cell_of (same_entries fill.entries e.0 e.1) in
        subst (λ (d : Cell). d ∈ cells_of bytes) e.2 (subst (λ (l : List Cell). cell_of e.0 ∈ l) (map_back (cells_of bytes)) there)

    from-sheet : (c : Cell) → c ∈ cells_of bytes → c ∈ map cell_of (leaves u)
    from-sheet c m =
        subst (λ (d : Cell). d ∈ map cell_of (leaves u)) (cell_leaf c) (Memᴰ.map cell_of (same_entries (same_sym fill.entries) (leaf_entry c) (Memᴰ.map leaf_entry m)))

    pub read_made : IsRead cells w bytes t
    read_made = record {
      sound = sound_at_last f.sound fill.holding fill.stands set-clock few once;
      capacity_is = at_last.same_capacity ∙ f.capacity_is;
      clock_is = set-clock.clock_is;
      holds = λ c. (λ m. of_the_sheet c (rw held_is at m), λ m. rw held_is (from-sheet c m));
      stamped = λ e m.
          ⊎_elim (λ s. s) (λ n. absurd (no_inner f.sound can_fill.none_yet e n.0)) (entries_at_last f.sound fill.holding fill.stands set-clock few once fill.renews e m);
      as_long = at_last.same_length ∙ f.as_long;
      rest_kept = rw capacity_same at (rest_at_last f.sound fill.holding fill.stands set-clock few once) ∙ f.rest_kept;
    }
