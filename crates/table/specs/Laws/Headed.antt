-- The header of a table changed: no node is, and what is written stands there.
use Rattle.std.specs.Prelude.{◌≡◌, List, ℕ, ◌+◌, ◌≤◌, ◌<◌, ℤ, pos, length, set, drop}
use Rattle.std.proofs.Common.{ap, ◌∙◌, arith, length-set, length-drop, ext_get_or, get_or-drop, get_or-set_same, get_or-set_other}
use Rattle.std.proofs.Math.Path.{fun_ext}
use Rattle.words.specs.Layout.{header}
use Rattle.words.specs.Laws.Layout.{node_past_header}
use Rattle.words.specs.Words.{word_at}
use Rattle.node.specs.Entry.{entries_of}
use Rattle.table.specs.Header.{entries_at}
use Rattle.table.specs.Inner.Headed.{Headed, CapacitySet, Clocked, Rooted}

pub headed_same : {w v : List ℤ} → Headed w v → entries_at v ≡ entries_at w
unfolding entries_at
headed_same h = fun_ext (λ i. ap entries_of (h.nodes i))

pub headed_set : (w : List ℤ) (j : ℕ) (z : ℤ) → j < header → Headed w (set w j z)
headed_set w j z low = record {
  nodes = λ i. node_past_header w j z i low;
  behind = λ at h. get_or-set_other w j at z (pos 0) (apart at h);
  same_length = length-set w j z;
}
  where
    apart : (at : ℕ) → header ≤ at → at ≡ j → ⊥
    apart at h e = omega arith

pub headed_then : {w v u : List ℤ} → Headed w v → Headed v u → Headed w u
headed_then h k = record {
  nodes = λ i. k.nodes i ∙ h.nodes i;
  behind = λ at b. k.behind at b ∙ h.behind at b;
  same_length = k.same_length ∙ h.same_length;
}

-- words that are the same from a place on
pub same_behind : (w v : List ℤ) (n : ℕ) → length v ≡ length w → ((at : ℕ) → n ≤ at → word_at v at ≡ word_at w at) → drop n v ≡ drop n w
same_behind w v n long same = ext_get_or (pos 0) (drop n v) (drop n w) (simp length-drop (omega arith)) (λ j low. simp get_or-drop (same (n + j) (omega arith)))

-- a word put in its place, and another one still there
put_here : (w : List ℤ) (j : ℕ) (z : ℤ) → j < length w → word_at (set w j z) j ≡ z
put_here w j z low = get_or-set_same w j z (pos 0) low

still_there : (w : List ℤ) (j at : ℕ) (z : ℤ) → (at ≡ j → ⊥) → word_at (set w j z) at ≡ word_at w at
still_there w j at z apart = get_or-set_other w j at z (pos 0) apart

apart_by : {m n : ℕ} → m < n → n ≡ m → ⊥
apart_by lt e = omega arith

apart_from : {m n : ℕ} → m < n → m ≡ n → ⊥
apart_from lt e = omega arith

pub rooted : (w : List ℤ) (root height : ℕ) → header ≤ length w → Rooted w root height (set (set w 2 (pos root)) 3 (pos height))
rooted w root height long =
    let v = set w 2 (pos root) in
    let many : length v ≡ length w = length-set w 2 (pos root) in
    record {
      headed = headed_then (headed_set w 2 (pos root) (omega arith)) (headed_set v 3 (pos height) (omega arith));
      root_is = still_there v 3 2 (pos height) (apart_from (omega arith)) ∙ put_here w 2 (pos root) (omega arith);
      height_is = put_here v 3 (pos height) (omega arith);
      same_capacity = still_there v 3 0 (pos height) (apart_from (omega arith)) ∙ still_there w 2 0 (pos root) (apart_from (omega arith));
      same_clock = still_there v 3 1 (pos height) (apart_from (omega arith)) ∙ still_there w 2 1 (pos root) (apart_from (omega arith));
    }

pub sized : (w : List ℤ) (cells : ℤ) → header ≤ length w → CapacitySet w cells (set w 0 cells)
sized w cells long = record {
  headed = headed_set w 0 cells (omega arith);
  capacity_is = put_here w 0 cells (omega arith);
  same_clock = still_there w 0 1 cells (apart_by (omega arith));
  same_root = still_there w 0 2 cells (apart_by (omega arith));
  same_height = still_there w 0 3 cells (apart_by (omega arith));
}

pub clocked : (w : List ℤ) (minute : ℤ) → header ≤ length w → Clocked w minute (set w 1 minute)
clocked w minute long = record {
  headed = headed_set w 1 minute (omega arith);
  clock_is = put_here w 1 minute (omega arith);
  same_capacity = still_there w 1 0 minute (apart_from (omega arith));
  same_root = still_there w 1 2 minute (apart_by (omega arith));
  same_height = still_there w 1 3 minute (apart_by (omega arith));
}
