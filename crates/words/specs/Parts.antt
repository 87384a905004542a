-- A run of consecutive elements of a list, and the list with other elements in the run's place.
use Rattle.std.specs.Prelude.{List, ◌++◌, ℕ, take, drop}

-- the k elements of w from `a` on
unfoldable pub part : {A : Type 0} → List A → ℕ → ℕ → List A
part w a k = take k (drop a w)

-- w with p in the place of its k elements from `a` on
unfoldable pub put : {A : Type 0} → List A → ℕ → ℕ → List A → List A
put w a k p = take a w ++ (p ++ drop k (drop a w))
