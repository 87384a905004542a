-- The three ways of a turn: the read failed, the input has ended, bytes came in.
use Rattle.std.specs.Prelude.{◌≡◌, refl, Bool, false, Some, None, List, ℕ, ◌≤◌, ℤ, min, length, take}
use Rattle.std.proofs.Common.{arith}
use Rattle.desk.specs.Talked.{Talked, Finished, Turned}

module _ {w : List ℤ} {buffer : List ℕ} {held : ℕ} {piece : List ℕ} where
  pub turned_failed : held ≤ length buffer → Turned None w buffer held piece w buffer held false
  turned_failed inside = record { failed = λ e. (refl, refl, refl, refl); ended = λ e. absurd (cc); came = λ m e some few. absurd (cc); held_in = inside }

  -- as many as the read answered are there, or all of the piece
  module _ {n far : ℕ} {v : List ℤ} where
    pub turned_ended : far ≡ min n (length piece) → far ≡ 0 → held ≤ length buffer → Finished w buffer held v → Turned (Some n) w buffer held piece v buffer held false
    turned_ended counted none inside finished = record {
      failed = λ e. absurd (cc);
      ended = λ e. (finished, refl, refl, refl);
      came = λ m e some few. let same : n ≡ m = cc in absurd (omega arith);
      held_in = inside;
    }

    pub turned_came : {buffer' : List ℕ} {held' : ℕ} {on : Bool} → far ≡ min n (length piece) → (far ≡ 0 → ⊥)
        → Talked w buffer held (take far piece) v buffer' held' on → Turned (Some n) w buffer held piece v buffer' held' on
    turned_came counted some talked = record {
      failed = λ e. absurd (cc);
      ended = λ e. let same : n ≡ 0 = cc in absurd (some (omega arith));
      came = λ m e more few. let same : n ≡ m = cc in let all : far ≡ m = omega arith in rw all at talked;
      held_in = talked.held_in;
    }
