use Rattle.std.proofs.Common.{refl, ap, ◌∙◌, ◌≡◌, List, [], ℕ, ◌+◌, Option, Some, None, Bor, add-zero, length, arith, to_z, w32}
use Rattle.std.proofs.Math.ListN.{get_or-eq_default}
use Rattle.std.proofs.lemmas.Grind.{common_steps}
use Rattle.std.specs.Option.{unwrap_or}
use Rattle.std.specs.Slice.{IsGetRangeResult}
use Rattle.whole.specs.Laws.Within.{word_back}
use Rattle.sheet.specs.Bytes.{byte_at, unsigned_at, word_in_bytes}
use Rattle.sheet.proofs.bytes.read_word.Goals as goal
use Rattle.sheet.proofs.bytes.read_word.Goals.{After-unwrap_or-rest}

-- a byte of those from a place on, none of which is there past the end
byte_from : (bytes : List ℕ) (at : ℕ) (rest : Option (Bor (List ℕ))) (none : Bor (List ℕ)) → none.now ≡ [] → IsGetRangeResult bytes at (length bytes) rest → (i : ℕ)
    → byte_at (unwrap_or rest none).now i ≡ byte_at bytes (at + i)
byte_from bytes at None none e h i = grind (arith, common_steps)
byte_from bytes at (Some x) none e h i = grind (arith, common_steps)

there : (c : After-unwrap_or-rest) (i : ℕ) → byte_at c.unwrap_or-rest.result.now i ≡ byte_at c.args.bytes.now (c.args.at + i)
there c = rw c.unwrap_or-rest.ensures (byte_from c.args.bytes.now c.args.at c.get.result _ refl c.get.ensures.lookup)

pub returns-in-len4-up : goal.returns-in-len4-up
unfolding word_in_bytes unsigned_at
returns-in-len4-up c =
    let byte = there (goal.at.returns-in-len4-up c).After-unwrap_or-rest in
    let first = simp add-zero at (byte 0) in
    let four = c.from_le_bytes-in-len4-up in
    word_back four.result four.type_inv ∙ four.ensures ∙ ap (to_z w32) (omega (arith, first, byte 1, byte 2, byte 3))

pub returns-in_default : goal.returns-in_default
unfolding word_in_bytes unsigned_at
returns-in_default c =
    let byte = there (goal.at.returns-in_default c).After-unwrap_or-rest in
    let first = simp add-zero at (byte 0) in
    let last = get_or-eq_default c.unwrap_or-rest.result.now 0 {n = 3} (omega arith) in
    word_back c.from_le_bytes.result c.from_le_bytes.type_inv ∙ c.from_le_bytes.ensures
    ∙ ap (to_z w32) (omega (arith, first, byte 1, byte 2, byte 3, last))
