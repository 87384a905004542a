-- The header of a table changed, and what such a change leaves alone.
use Rattle.std.specs.Prelude.{◌≡◌, List, ℕ, ◌≤◌, ℤ, pos, length}
use Rattle.words.specs.Layout.{header, node_at}
use Rattle.words.specs.Words.{word_at}
use Rattle.table.specs.Header.{capacity_word, clock, root_word, height_word}

-- no node is changed, and no word behind the header
pub record Headed (w v : List ℤ) : Type 0 where
  pub nodes : (i : ℕ) → node_at v i ≡ node_at w i
  pub behind : (at : ℕ) → header ≤ at → word_at v at ≡ word_at w at
  pub same_length : length v ≡ length w

-- the capacity is written
pub record CapacitySet (w : List ℤ) (cells : ℤ) (v : List ℤ) : Type 0 where
  pub headed : Headed w v
  pub capacity_is : capacity_word v ≡ cells
  pub same_clock : clock v ≡ clock w
  pub same_root : root_word v ≡ root_word w
  pub same_height : height_word v ≡ height_word w

-- the root and the height are written
pub record Rooted (w : List ℤ) (root height : ℕ) (v : List ℤ) : Type 0 where
  pub headed : Headed w v
  pub root_is : root_word v ≡ pos root
  pub height_is : height_word v ≡ pos height
  pub same_capacity : capacity_word v ≡ capacity_word w
  pub same_clock : clock v ≡ clock w

-- the clock is written
pub record Clocked (w : List ℤ) (minute : ℤ) (v : List ℤ) : Type 0 where
  pub headed : Headed w v
  pub clock_is : clock v ≡ minute
  pub same_capacity : capacity_word v ≡ capacity_word w
  pub same_root : root_word v ≡ root_word w
  pub same_height : height_word v ≡ height_word w
