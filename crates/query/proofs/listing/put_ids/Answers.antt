use Rattle.std.proofs.Common.{◌≡◌, ◌<◌, ◌+◌, ◌^◌, ℕ, ℤ, List, ◌∙◌, ap₂, sym, subst, zero-add, map, pos, length, take, get_or, set, arith, length-take-le}
use Rattle.std.specs.Int.{w32}
use Rattle.std.proofs.Math.Seq.{paste}
use Rattle.std.proofs.lemmas.List.{get_or-take, get_or-map, length-map}
use Rattle.std.proofs.lemmas.List.Edits.{paste_more, paste_all}
use Rattle.whole.specs.Laws.Within.{read_nat}
use Rattle.query.proofs.listing.put_ids.Goals as goal

-- one key more
ids_more : (list : List ℤ) (keys : List ℕ) (j : ℕ) → j < length list → j < length keys → set (paste list 0 (map pos keys) j) j (pos (get_or keys j 0)) ≡ paste list 0 (map pos keys) (j + 1)
ids_more list keys j fits lt =
    let ids = map pos keys in
    let more = paste_more list 0 ids j (pos 0) (omega arith) (rw length-map lt) in
    rw (← get_or-map pos keys j 0 (pos 0) lt) (subst (λ (at : ℕ). set (paste list 0 ids j) at (get_or ids j (pos 0)) ≡ paste list 0 ids (j + 1)) (zero-add j) more)

pub loop-j-preserved : goal.loop-j-preserved
loop-j-preserved c =
    let j = c.loop-j.j in
    let keys = take c.args.m c.args.keys.now in
    let lt : j < c.args.m = omega (arith, length-take-le c.args.m c.args.keys.now c.requires.inside) in
    let small : get_or keys j 0 < 2 ^ 31 = rw get_or-take (c.requires.small j lt) in
    ap₂ (λ list id. set list j id) c.loop-j.invariant (read_nat w32 (get_or keys j 0) small) ∙ ids_more c.args.list.now keys j (omega (arith, c.requires.fits)) c.loop-j-test.true

pub returns : goal.returns
returns c =
    let keys = take c.args.m c.args.keys.now in
    let many : length (map pos keys) ≡ c.args.m = length-map keys pos ∙ length-take-le c.args.m c.args.keys.now c.requires.inside in
    let e : c.loop-j.j ≡ c.args.m = omega (arith, length-take-le c.args.m c.args.keys.now c.requires.inside) in
    c.loop-j.invariant ∙ rw (e, paste_all c.args.list.now 0 (map pos keys) c.args.m (sym many), zero-add)
