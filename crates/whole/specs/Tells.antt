-- What a test's answer tells: a Bool that is true exactly when a fact holds.
use Rattle.std.specs.Prelude.{Bool, T}

pub record Tells (b : Bool) (P : Type 0) : Type 0 where
  pub sure : T b → P
  pub seen : P → T b
