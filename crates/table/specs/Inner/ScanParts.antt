-- The clauses of an inner entry's soundness in the groups in which they are tested.
use Rattle.std.specs.Prelude.{◌≡◌, List, ℕ, ◌≤◌, ℤ, length, ◌≤ℤ◌}
use Rattle.whole.specs.Lists.{◌∈◌}
use Rattle.track.specs.Numbers.{IsMinute}
use Rattle.node.specs.Entry.{Entry, child_word, child_of, stamp_of}
use Rattle.table.specs.Header.{IsNode}
use Rattle.table.specs.SoundTree.{Nodes}

pub record ChildSound (N : Nodes) (cells : ℕ) (e : Entry) : Type 0 where
  pub child_in : IsNode cells (child_word e)
  pub filled : 3 ≤ length (N (child_of e))

pub record NoneAfter (es : List Entry) (last : ℤ) : Type 0 where
  pub none : (e : Entry) → e ∈ es → stamp_of e ≤ℤ last

-- the child has the entries es and so many levels beneath it
pub record StampSound (below : ℕ) (clock : ℤ) (e : Entry) (es : List Entry) : Type 0 where
  pub stamp_in : IsMinute (stamp_of e)
  pub stamped : stamp_of e ≤ℤ clock
  pub not_before : (below ≡ 0 → ⊥) → NoneAfter es (stamp_of e)
