-- Where things stand in a table of words: a header, then the nodes side by side. A node is some words of its own, of which the first
-- is the count of its entries, then its entries side by side. Each size is said here once.
use Rattle.std.specs.Prelude.{List, ℕ, ◌+◌, ◌*◌, ◌^◌, ◌≤◌, length}
use Rattle.words.specs.Parts.{part, put}

-- the words before the first node
abbrev pub header : ℕ
header = 16

abbrev pub node_words : ℕ
node_words = 96

-- the words of a node before its first entry
abbrev pub own_words : ℕ
own_words = 8

abbrev pub entry_words : ℕ
entry_words = 11

-- the entries that a node has room for
abbrev pub full_node : ℕ
full_node = 8

-- below this number no node's place is past the largest usize. Every node that lies in a slice has a lower number, and so has every word that
-- is taken for one
abbrev pub node_limit : ℕ
node_limit = 2 ^ 55

-- the place of node i's first word in the table
abbrev pub node_start : ℕ → ℕ
node_start i = header + node_words * i

-- the place of entry k's first word in its node
abbrev pub entry_offset : ℕ → ℕ
entry_offset k = own_words + entry_words * k

-- node i lies in the table
abbrev pub InTable : {A : Type 0} → List A → ℕ → Type 0
InTable w i = node_start i + node_words ≤ length w

-- the words of node i, and the table with the words n in their place
unfoldable pub node_at : {A : Type 0} → List A → ℕ → List A
node_at w i = part w (node_start i) node_words

unfoldable pub set_node : {A : Type 0} → List A → ℕ → List A → List A
set_node w i n = put w (node_start i) node_words n

-- the words of a node's entry k, and the node with the words e in their place
unfoldable pub entry_at : {A : Type 0} → List A → ℕ → List A
entry_at n k = part n (entry_offset k) entry_words

unfoldable pub set_entry : {A : Type 0} → List A → ℕ → List A → List A
set_entry n k e = put n (entry_offset k) entry_words e
