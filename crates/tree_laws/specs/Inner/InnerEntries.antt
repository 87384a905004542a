-- The inner entries of a tree that a call changes: each is stamped at the call's minute, or stood there at the start with all beneath it as it was.
-- A change keeps this where the entries that it makes are stamped.
use Rattle.std.specs.Prelude.{◌≡◌, ◌⊎◌, List, ℕ, zero, suc, ℤ}
use Rattle.whole.specs.Lists.{◌∈◌}
use Rattle.node.specs.Entry.{Entry, child_of, stamp_of}
use Rattle.table.specs.SoundTree.{Nodes}
use Rattle.table.specs.Inner.Frame.{Agree}
use Rattle.table.specs.SoundTree.{InnerEntry, inner_at}

-- the nodes and the inner entries from which a call at the minute starts
pub record CallStart : Type 0 where
  pub nodes : Nodes
  pub inners : List InnerEntry
  pub minute : ℤ

-- an inner entry whose child has h levels beneath it is stamped at the minute, or it stood there at the start and all beneath it is as it was
abbrev pub Fine : CallStart → Nodes → ℕ → Entry → Type 0
Fine S N h e = (stamp_of e ≡ S.minute) ⊎ ((inner_at h e ∈ S.inners) × Agree S.nodes N h (child_of e))

-- every inner entry that is reached from node i, which has h levels beneath it, is fine
unfoldable pub AllInner : CallStart → Nodes → ℕ → ℕ → Type 0
AllInner S N zero i = Unit {0}
AllInner S N (suc h) i = (e : Entry) → e ∈ N i → Fine S N h e × AllInner S N h (child_of e)

-- what a change at the clock below node i does to the inner entries: if all were fine before, from whatever start, all are fine after it
abbrev pub Renews : ℤ → Nodes → ℕ → ℕ → Nodes → ℕ → ℕ → Type 0
Renews clock N h i N' h' i' = (S : CallStart) → S.minute ≡ clock → AllInner S N h i → AllInner S N' h' i'
