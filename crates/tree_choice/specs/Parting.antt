-- A parting of a full node's entries, as a mark for each: the marked ones go to another node, the others stay.
use Rattle.std.specs.Prelude.{◌≡◌, Bool, true, false, List, [], ◌∷◌, ℕ, suc, ◌+◌, ◌≤◌, length}
use Rattle.words.specs.Layout.{full_node}

-- how many marks are set
unfoldable pub marked : List Bool → ℕ
marked [] = 0
marked (true ∷ marks) = suc (marked marks)
marked (false ∷ marks) = marked marks

-- the entries that each half gets at least
abbrev pub fewest : ℕ
fewest = 3

-- there is a mark for each entry of a full node, and each half gets enough
pub record Parts (marks : List Bool) : Type 0 where
  pub all : length marks ≡ full_node
  pub go : fewest ≤ marked marks
  pub stay : marked marks + fewest ≤ full_node
