-- The calls over tables as their callers have them: the answer's number, and what is written through references.
use Rattle.std.specs.Prelude.{◌≡◌, List, ℕ, ℤ, pos, Result}
use Rattle.track.specs.Query.{still, EndsBeforeStart, EndsByStart}
use Rattle.track.specs.declared.queries.Query.{Query}
use Rattle.table.specs.Fresh.{MakesFresh}
use Rattle.query.specs.Queried.{answer_number, answer_hits, answer_opened, Queried}
use Rattle.query.specs.declared.answer.Found.{Found}
use Rattle.query.specs.declared.answer.NotListed.{NotListed}

-- r is the number of making a fresh table in the words w, which leaves v
pub record FreshGives (cells : ℤ) (w : List ℤ) (r : ℤ) (v : List ℤ) : Type 0 where
  pub number : ℕ
  pub is : r ≡ pos number
  pub makes : MakesFresh cells w number v

-- an answer in numbers: r is its own, hits and opened are its counts
pub record InNumbers (answer : Result Found NotListed) (r hits opened : ℤ) : Type 0 where
  pub number_is : r ≡ pos (answer_number answer)
  pub hits_is : hits ≡ pos (answer_hits answer)
  pub opened_is : opened ≡ pos (answer_opened answer)

-- r, hits and opened are the answer to a query of the table w, which leaves list'
pub record QueryGives (w : List ℤ) (Backward : Type 0) (q : Query) (list : List ℤ) (r hits opened : ℤ) (list' : List ℤ) : Type 0 where
  pub answer : Result Found NotListed
  pub queried : Queried w Backward q list answer list'
  pub in_numbers : InNumbers answer r hits opened

-- the same for a window, and for a moving query
abbrev pub WindowGives : List ℤ → Query → List ℤ → ℤ → ℤ → ℤ → List ℤ → Type 0
WindowGives w q = QueryGives w (EndsBeforeStart q) (still q)

abbrev pub MovingGives : List ℤ → Query → List ℤ → ℤ → ℤ → ℤ → List ℤ → Type 0
MovingGives w q = QueryGives w (EndsByStart q) q
