-- What a read answers, and how many bytes that is.
use Rattle.std.specs.Prelude.{◌≡◌, Option, Some, None, List, ℕ, ◌≤◌, ℤ, pos, negsuc, min, length, take}

-- what a read that is lent n bytes may answer: nothing where it fails, or how many came in, at most n
abbrev pub Moved : ℕ → Option ℕ → Type 0
Moved n (Some k) = k ≤ n
Moved n None = Unit {0}

-- the first n of these bytes are there, and are n
abbrev pub IsPrefixLen : ℕ → List ℕ → Type 0
IsPrefixLen n xs = (n ≤ length xs) × (n ≡ length (take n xs))

-- an answer brought into 0 to the most that there is
abbrev pub clamp_len : ℤ → ℕ → ℕ
clamp_len (pos k) most = min k most
clamp_len (negsuc k) most = 0
