use Rattle.std.proofs.Common.{◌≡◌, ℕ, w32}
use Rattle.std.proofs.Math.Nat.{div-div-eq-div-mul}
use Rattle.std.specs.Int.{to_le_bytes}
use Rattle.whole.specs.Laws.Within.{back}
use Rattle.words.specs.Laws.Parts.{lent_back}
use Rattle.sheet.specs.Bytes.{four_bytes, bytes_of}
use Rattle.sheet.proofs.bytes.put_word.Goals as goal

-- the library divides by powers of 256, and four_bytes step by step
le_bytes_of : (n : ℕ) → to_le_bytes w32 n ≡ four_bytes n
unfolding four_bytes
le_bytes_of n = rw (div-div-eq-div-mul n 256 256, div-div-eq-div-mul n 65536 256)

pub returns : goal.returns
unfolding bytes_of
returns c =
    let e = simp (back c.ranges.z) at c.to_le_bytes.ensures in
    rw (lent_back c.args.bytes.now c.args.at 4, c.copy_from_slice.ensures.after, e, le_bytes_of)
