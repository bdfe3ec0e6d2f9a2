-- The fields of a SEQUENCE by their names, each name at its first place.
use Rattle.std.specs.Prelude.{◌≡◌, ℕ, List, [], ◌∷◌, find, Option, Some, option_map, slice_get}
use Rattle.std.specs.List.{enumerate_from}
use Rattle.std.specs.Str.{bytes_eq}
use Rattle.acn_num.specs.Names.{Name}
use Rattle.acn_asn_syntax.specs.Mirror.{Component}
use Rattle.acn_acn_syntax.specs.Mirror as acn
use Rattle.acn_index.specs.Keyed.{firsts}
use Rattle.acn_slots.specs.Slots.{default_of, name_in_text}
use Rattle.acn_slots.specs.declared.places.Places.{Places}

-- the fields between braces, none where there are no braces
abbrev pub texts : Option (List acn.Field) → List acn.Field
texts fs = default_of fs []

-- what has a number in a list, with this number
abbrev pub numbered : {A : Type 0} → List A → ℕ → Option (ℕ × A)
numbered xs i = option_map (λ x. (i, x)) (slice_get xs i)

abbrev pub without_number : {A : Type 0} → Option (ℕ × A) → Option A
without_number {A} o = option_map (λ (p : ℕ × A). p.1) o

-- the first of a name, with its number
abbrev pub component_at : List Component → Name → Option (ℕ × Component)
component_at cs name = find (λ (c : ℕ × Component). bytes_eq c.1.name name) (enumerate_from 0 cs)

abbrev pub text_at : List acn.Field → Name → Option (ℕ × acn.Field)
text_at fs name = find (λ (f : ℕ × acn.Field). bytes_eq (name_in_text f.1) name) (enumerate_from 0 fs)

-- the names under which they are noted
abbrev pub component_key : Component → List Name
component_key c = c.name ∷ []

abbrev pub text_key : acn.Field → List Name
text_key f = name_in_text f ∷ []

pub record ArePlaces (cs : List Component) (fs : List acn.Field) (p : Places) : Type 0 where
  pub of_components : p.components ≡ firsts component_key cs
  pub of_texts : p.texts ≡ firsts text_key fs

-- where places are noted, these are the right ones
abbrev pub AreNoted : List Component → List acn.Field → Option Places → Type 0
AreNoted cs fs noted = (p : Places) → noted ≡ Some p → ArePlaces cs fs p
