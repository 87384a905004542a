-- Pieces of one size, put into a list one after the other.
use Rattle.std.specs.Prelude.{◌≡◌, List, [], ◌∷◌, ◌++◌, ℕ, ◌*◌, length}
use Rattle.words.specs.Parts.{put}

-- `all` has a piece of this size for each element, one after the other
pub record Pieces {A B : Type 0} (piece : A → List B) (size : ℕ) (all : List A → List B) : Type 0 where
  pub none : all [] ≡ []
  pub more : (x : A) (l : List A) → all (x ∷ l) ≡ piece x ++ all l
  pub size_is : (x : A) → length (piece x) ≡ size

-- the pieces of the elements of l are put into w from `at` on, which made it t
pub record PutInLine {A B : Type 0} (all : List A → List B) (size : ℕ) (w : List B) (at : ℕ) (l : List A) (t : List B) : Type 0 where
  pub is : t ≡ put w at (size * length l) (all l)
  pub long : length t ≡ length w
