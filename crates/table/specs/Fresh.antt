-- A fresh table, and when making one is refused.
use Rattle.std.specs.Prelude.{◌≡◌, List, [], ◌∷◌, ℕ, ◌<◌, ℤ, pos, length, drop, Result, Ok, Err}
use Rattle.words.specs.Words.{nat_of}
use Rattle.track.specs.Refusals.{Reason, ◌when◌, First, number, number_of}
use Rattle.table.specs.Header.{capacity_word, clock, IsCapacity, words_for}
use Rattle.table.specs.Sound.{held, Sound}
use Rattle.track.specs.declared.refusal.Refusal.{Refusal}

-- why no table for so many cells is made in the words w, in the order in which it is tried
abbrev pub fresh_reasons : ℤ → List ℤ → List Reason
fresh_reasons cells w =
    2 when (IsCapacity cells → ⊥) ∷
    3 when (length w < words_for (nat_of cells)) ∷
    []

-- v is a fresh table for so many cells that was made in the words w: clock 0, no cells, and no word touched past its need
pub record IsFresh (cells : ℤ) (w v : List ℤ) : Type 0 where
  pub sound : Sound v
  pub capacity_is : capacity_word v ≡ cells
  pub clock_is : clock v ≡ pos 0
  pub none_held : held v ≡ []
  pub as_long : length v ≡ length w
  pub rest_kept : drop (words_for (nat_of cells)) v ≡ drop (words_for (nat_of cells)) w

-- the call's number and the words that it leaves
pub record MakesFresh (cells : ℤ) (w : List ℤ) (n : ℕ) (v : List ℤ) : Type 0 where
  pub refusal : First (fresh_reasons cells w) n
  pub accepted : n ≡ 0 → IsFresh cells w v
  pub refused : (n ≡ 0 → ⊥) → v ≡ w
