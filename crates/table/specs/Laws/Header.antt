-- What the header's tests tell, and how far its numbers go.
use Rattle.std.specs.Prelude.{◌≡◌, Bool, ◌&&◌, ℕ, ◌≤◌, ◌<◌, leb, ltb, ℤ, pos, negsuc}
use Rattle.std.proofs.Common.{arith, leb→le, le→leb, ltb→lt}
use Rattle.std.specs.Int.Signed.{le_z}
use Rattle.whole.specs.Laws.Order.{le_z_tells}
use Rattle.whole.specs.Tells.{Tells}
use Rattle.whole.specs.Laws.Tells.{tells_as, tells_both}
use Rattle.words.specs.Words.{nat_of}
use Rattle.words.specs.Laws.Words.{nat_of_tells, nat_of_below_tells}
use Rattle.table.specs.Header.{greatest_capacity, IsCapacity, IsNode, nodes_for}

pub capacity_tells : (n : ℤ) (m : ℕ) → m ≡ nat_of n → Tells (le_z (pos 1) n && leb m greatest_capacity) (IsCapacity n)
capacity_tells n m e = tells_as (tells_both le_z_tells (rw e (nat_of_tells n greatest_capacity))) (λ p. record { from = p.0; to = p.1 }) (λ c. (c.from, c.to))

-- the same of a test of the count alone, which is 0 for a number below 0
pub capacity_between : (n : ℤ) {b : Bool} → Tells b ((1 ≤ nat_of n) × (nat_of n ≤ greatest_capacity)) → Tells b (IsCapacity n)
unfolding nat_of
capacity_between (pos k) t =
    tells_as t
    (λ p. record { from = record { le = le→leb 1 k p.0 }; to = record { le = le→leb k greatest_capacity p.1 } })
    (λ c. (leb→le 1 k c.from.le, leb→le k greatest_capacity c.to.le))
capacity_between (negsuc k) t = tells_as t (λ p. absurd (omega (arith, p.0))) (λ c. absurd c.from.le)

pub is_node_tells : (cells n m : ℕ) (z : ℤ) → n ≡ nat_of z → m ≡ nodes_for cells → Tells (le_z (pos 0) z && ltb n m) (IsNode cells z)
is_node_tells cells n m z e f = tells_as (tells_both le_z_tells (rw (e, f) (nat_of_below_tells z (nodes_for cells) (omega arith)))) (λ p. record { from = p.0; to = p.1 }) (λ i. (i.from, i.to))

-- a capacity as a count
pub capacity_low : {n : ℤ} → IsCapacity n → nat_of n ≤ greatest_capacity
capacity_low {n} c = leb→le (nat_of n) greatest_capacity ((nat_of_tells n greatest_capacity).seen c.to)

-- a node's number is below the number of nodes
pub node_below : {cells : ℕ} {z : ℤ} → IsNode cells z → nat_of z < nodes_for cells
node_below {cells} {z} i = ltb→lt (nat_of z) (nodes_for cells) ((nat_of_below_tells z (nodes_for cells) (omega arith)).seen i.to)
