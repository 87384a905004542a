-- What stands in a list: membership, the members that pass a test, and lists in which nothing stands twice.
-- Membership in ++ and in map is of mathlib.Core.List.Memᴰ: append_left, append_right, append_cases, map, of_map.
use Rattle.std.specs.Prelude.{Bool, true, false}
use mathlib.Core.List.{List, [], ◌∷◌, Memᴰ}

infix 50 ◌∈◌ ◌⊆◌
-- ---- membership
-- x stands in l
abbrev pub ◌∈◌ : {A : Type 0} → A → List A → Type 0
x ∈ l = Memᴰ x l

-- whatever stands in l stands in m
abbrev pub ◌⊆◌ : {A : Type 0} → List A → List A → Type 0
◌⊆◌ {A} l m = (x : A) → x ∈ l → x ∈ m

-- ---- the members that pass a test
abbrev pub put_if : {A : Type 0} → Bool → A → List A → List A
put_if true x l = x ∷ l
put_if false x l = l

unfoldable pub keep : {A : Type 0} → (A → Bool) → List A → List A
keep test [] = []
keep test (x ∷ l) = put_if (test x) x (keep test l)

-- ---- no element stands twice. (`Nodup` of mathlib.Core.List.Membership says so too, of membership without its place; here a member is a place.)
pub data NoRepeat {A : Type 0} : List A → Type 0 where
  no_repeat_none : NoRepeat []
  no_repeat_cons : {x : A} {l : List A} → (x ∈ l → ⊥) → NoRepeat l → NoRepeat (x ∷ l)
