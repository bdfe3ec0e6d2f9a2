-- Braces that don't list what a type has. These rules are this profile's own.
use Rattle.std.specs.Prelude.{Bool, true, false, not, if◌then◌else◌, List, [], ◌∷◌, map, Option, Some, None}
use Rattle.std.specs.List.{list_any, list_all}
use Rattle.std.specs.Str.{bytes_eq}
use Rattle.acn_num.specs.Names.{Name}
use Rattle.acn_asn_syntax.specs.Mirror.{AsnBase, enumerated, sequence, sequence_of, sequence_size, choice, Component, component_list, Alternative, alternative_list}
use Rattle.acn_asn_syntax.specs.declared.types.Item.{Item}
use Rattle.acn_acn_syntax.specs.Mirror.{Field, plain, inserted, number}
use Rattle.acn_slots.specs.Slots.{braces_origin, braces_at}
use Rattle.acn_sites.specs.Sites.{Site, base_of}

-- the names that are left behind this one, which has to be the first
abbrev pub behind : List Name → Name → Option (List Name)
behind [] name = None
behind (n ∷ names) name = if bytes_eq n name then Some names else None

-- the names that are left behind a field; none where the field may not stand here
abbrev pub passed : (inserts : Bool) → List Name → Field → Option (List Name)
passed inserts names (inserted name k attributes) = if inserts then Some names else None
passed inserts names (plain name arguments attributes bs) = behind names name
passed inserts names (number name n) = None

abbrev pub are_none : List Name → Bool
are_none [] = true
are_none (n ∷ names) = false

abbrev pub going_on : (List Name → Bool) → Option (List Name) → Bool
going_on next None = false
going_on next (Some names) = next names

-- The plain fields have these names in this order. Inserted fields stand anywhere between them where they may stand at all.
abbrev pub lists : (inserts : Bool) → List Name → List Field → Bool
lists inserts names [] = are_none names
lists inserts names (f ∷ fs) = going_on (λ more. lists inserts more fs) (passed inserts names f)

abbrev pub is_plain : Field → Bool
is_plain (plain name arguments attributes bs) = true
is_plain _ = false

abbrev pub one_plain : List Field → Bool
one_plain [] = false
one_plain (f ∷ []) = is_plain f
one_plain (f ∷ g ∷ fs) = false

abbrev pub is_item : List Item → Name → Bool
is_item items name = list_any (λ (i : Item). bytes_eq name i.name) items

-- a field that gives a number to an item
abbrev pub is_number_of : List Item → Field → Bool
is_number_of items (number name n) = is_item items name
is_number_of items (plain name arguments attributes bs) = false
is_number_of items (inserted name k attributes) = false

abbrev pub component_names : List Component → List Name
component_names cs = map (λ (c : Component). c.name) cs

abbrev pub alternative_names : List Alternative → List Name
alternative_names more = map (λ (a : Alternative). a.name) more

abbrev pub braces_fit : AsnBase → List Field → Bool
braces_fit (sequence cs) fs = lists true (component_names (component_list cs)) fs
braces_fit (choice more) fs = lists false (alternative_names (alternative_list more)) fs
braces_fit (sequence_of t) fs = one_plain fs
braces_fit (sequence_size c t) fs = one_plain fs
braces_fit (enumerated items) fs = list_all (is_number_of items) fs
braces_fit _ fs = false

abbrev pub unless_fit : AsnBase → Option (List Field) → Bool
unless_fit b None = false
unless_fit b (Some fs) = not (braces_fit b fs)

-- the nearest braces don't list what the type has
unfoldable pub has_no_such_field : Site → Bool
has_no_such_field s = unless_fit (base_of s) (braces_at s.used (braces_origin s.chain s.used))
