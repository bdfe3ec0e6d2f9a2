-- Places in the text of the ACN modules, and the earliest of what was found there.
use Rattle.std.specs.Prelude.{ℕ, Bool, true, false, ◌&&◌, nat_lt, nat_eq, if◌then◌else◌, List, [], ◌∷◌, ◌++◌, Option, Some, None}
use Rattle.acn_index.specs.Lookup.{EntryAt}

-- The number of the ACN module, that of the entry in it, and then the way inside the entry: at each level 0 and the number of an
-- argument, 1 and that of an attribute, or 2 and that of a field between the braces, as they follow each other in the text.
abbrev pub Place : Type 0
Place = List ℕ

abbrev pub entry_place : EntryAt → Place
entry_place e = e.acn ∷ e.entry ∷ []

abbrev pub argument_place : Place → ℕ → Place
argument_place at i = at ++ 0 ∷ i ∷ []

abbrev pub attribute_place : Place → ℕ → Place
attribute_place at i = at ++ 1 ∷ i ∷ []

abbrev pub field_place : Place → ℕ → Place
field_place at i = at ++ 2 ∷ i ∷ []

-- one of the conditions of an attribute
abbrev pub condition_place : Place → ℕ → Place
condition_place at i = at ++ i ∷ []

-- Whether the first place stands before the second in the text: as words in a dictionary.
abbrev pub is_before : Place → Place → Bool
is_before [] [] = false
is_before [] (b ∷ q) = true
is_before (a ∷ p) [] = false
is_before (a ∷ p) (b ∷ q) = if nat_lt a b then true else (nat_eq a b && is_before p q)

-- the one that stands before the other; the first of two at one place
abbrev pub sooner : {A : Type 0} → Option (Place × A) → Option (Place × A) → Option (Place × A)
sooner best None = best
sooner None (Some x) = Some x
sooner (Some best) (Some x) = if is_before x.0 best.0 then Some x else Some best

abbrev pub earliest_from : {A B : Type 0} → (B → Option (Place × A)) → Option (Place × A) → List B → Option (Place × A)
earliest_from f best [] = best
earliest_from f best (x ∷ xs) = earliest_from f (sooner best (f x)) xs

-- what stands first in the text of all that is found in these
abbrev pub earliest : {A B : Type 0} → (B → Option (Place × A)) → List B → Option (Place × A)
earliest f xs = earliest_from f None xs

abbrev pub found_there : {A : Type 0} → Option (Place × A) → Option A
found_there None = None
found_there (Some x) = Some x.1
