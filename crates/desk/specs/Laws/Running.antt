-- Turns one after the other: what they have heard so far, and the run that they come to.
use Rattle.std.specs.Prelude.{◌≡◌, refl, Bool, true, Option, Some, None, List, ◌++◌, ℕ, zero, suc, ℤ, length, take}
use Rattle.std.proofs.Common.{sym, ◌∙◌, inl, inr, arith}
use Rattle.std.proofs.lemmas.Bool.{false≢true}
use Rattle.desk.specs.Inner.Counts.{Moved}
use Rattle.desk.specs.Talked.{HearsAll, Talked, Turned, Ran}
use Rattle.desk.specs.Laws.Talking.{hears_then}

-- some bytes are heard
abbrev pub HeardSome : List ℤ → List ℕ → ℕ → List ℤ → List ℕ → ℕ → Type 0
HeardSome w buffer held v buffer' held' = (bytes : List ℕ) × HearsAll w buffer held bytes v buffer' held'

pub ran_out : {w : List ℤ} {buffer : List ℕ} {held : ℕ} {v : List ℤ} {buffer' : List ℕ} {held' : ℕ} → HeardSome w buffer held v buffer' held' → Ran w buffer held v buffer' held'
ran_out {v} so_far = record { bytes = so_far.0; u = v; hears = so_far.1; last = inl refl }

module _ {w : List ℤ} {buffer : List ℕ} {held : ℕ} {t : List ℤ} {buffer' : List ℕ} {held' : ℕ} (so_far : HeardSome w buffer held t buffer' held') where
  talked_on : {bytes : List ℕ} {v : List ℤ} {buffer'' : List ℕ} {held'' : ℕ} {told : Bool} → Talked t buffer' held' bytes v buffer'' held'' told → HeardSome w buffer held v buffer'' held''
  talked_on {bytes} talked = (so_far.0 ++ take talked.far bytes, hears_then so_far.1 talked.hears)

  module _ {piece : List ℕ} {v : List ℤ} {buffer'' : List ℕ} {held'' : ℕ} {on : Bool} where
    -- the turn says that more is to be read
    pub turned_on : (got : Option ℕ) → Moved (length piece) got → Turned got t buffer' held' piece v buffer'' held'' on → on ≡ true → HeardSome w buffer held v buffer'' held''
    turned_on None moved turned is = absurd (false≢true (sym (turned.failed refl).3 ∙ is))
    turned_on (Some zero) moved turned is = absurd (false≢true (sym (turned.ended refl).3 ∙ is))
    turned_on (Some (suc k)) moved turned is = talked_on (turned.came (suc k) refl (omega arith) moved)

    -- the turn is the last one
    pub turned_last : (got : Option ℕ) → Moved (length piece) got → Turned got t buffer' held' piece v buffer'' held'' on → Ran w buffer held v buffer'' held''
    turned_last None moved turned = let as_it_was = turned.failed refl in rw (as_it_was.0, as_it_was.1, as_it_was.2) (ran_out so_far)
    turned_last (Some zero) moved turned =
        let end = turned.ended refl in
        rw (end.1, end.2) (record { bytes = so_far.0; u = t; hears = so_far.1; last = inr end.0 })
    turned_last (Some (suc k)) moved turned = ran_out (talked_on (turned.came (suc k) refl (omega arith) moved))
