-- The hits of a query that was answered stand in its list.
use Rattle.std.specs.Prelude.{refl, List, ℤ, length, drop, Result, Ok, Err}
use Rattle.std.proofs.Common.{ap, arith, length-append}
use Rattle.track.specs.declared.queries.Query.{Query}
use Rattle.query.specs.Queried.{Queried}
use Rattle.desk_serve.specs.Inner.Asking.{InList}
use Rattle.query.specs.declared.answer.Found.{Found}
use Rattle.query.specs.declared.answer.NotListed.{NotListed}

pub hits_in_list : {w : List ℤ} {B : Type 0} {q : Query} {list list' : List ℤ} {r : Result Found NotListed} → Queried w B q list r list' → InList r list'
hits_in_list {list} {r = Ok f} asked =
    let l = asked.accepted refl in
    let n = length l.ids in
    omega (arith, l.hit_count, ap length l.written, length-append l.ids (drop n list))
hits_in_list {r = Err why} asked = tt
