-- Bytes as lines. Each line ends in a line feed, and what stands after the last line feed is the rest.
use Rattle.std.specs.Prelude.{◌≡◌, List, [], ◌∷◌, ◌++◌, ℕ}
use Rattle.whole.specs.Lists.{◌∈◌}

abbrev pub line_feed : ℕ
line_feed = 10

-- the lines one after the other, each with its line feed, and then the rest
abbrev pub joined : List (List ℕ) → List ℕ → List ℕ
joined [] rest = rest
joined (line ∷ lines) rest = line ++ line_feed ∷ joined lines rest

abbrev pub NoFeed : List ℕ → Type 0
NoFeed bytes = line_feed ∈ bytes → ⊥

-- the bytes are these whole lines, told without their line feeds, and this rest
pub record CutInto (bytes : List ℕ) (lines : List (List ℕ)) (rest : List ℕ) : Type 0 where
  pub is : bytes ≡ joined lines rest
  pub clean : (line : List ℕ) → line ∈ lines → NoFeed line
  pub clean_rest : NoFeed rest

-- the rest is a line too, if there is any
abbrev pub last_line : List ℕ → List (List ℕ)
last_line [] = []
last_line (b ∷ rest) = (b ∷ rest) ∷ []
