-- The value that a line gives to a grammar, or the first fault. A line is JSON (RFC 8259) as serde_json reads it, which says which
-- member of a name that comes twice is kept, and that 127 levels are read. The rest is this profile's own.
use Rattle.std.specs.Prelude.{ℕ, ◌+◌, ℤ, nat_lt, ◌==◌, ◌||◌, map, Bool, true, false, if◌then◌else◌, List, [], ◌∷◌, ◌++◌, Option, Some, None, option_map, option_and_then, Result, Ok, Err}
use Rattle.std.specs.List.{list_all}
use Rattle.std.specs.Str.{is_utf8}
use Rattle.hex.specs.Hex.{decode_of}
use Rattle.hex.specs.declared.error.FromHexError.{FromHexError}
use Rattle.serde_json.specs.Data.{Items, no_items, item, Members, no_members, member}
use Rattle.serde_json.specs.Data as json
use Rattle.serde_json.specs.Find.{as_null, as_bool, as_number, as_str, as_array, as_object, as_integer, get_member}
use Rattle.serde_json.specs.Read.{read}
use Rattle.acn_grammar.specs.Asks.{same_name}
use Rattle.acn_grammar.specs.Grammar.{Grammar, Form, Fields, Alternatives, Places, Elements, node, num, octets, bits, text, seq, list, choice, contained, no_fields, component, inserted, no_alternatives, alternative, int, boolean, null, octet_string, bit_string, characters, record_of, list_of, alt, no_places, empty, filled, no_elements, element}
use Rattle.acn_grammar.specs.Grammar as data_words
use Rattle.acn_grammar.specs.Shaped.{may_be_absent}
use Rattle.acn_grammar.specs.declared.node.NumKind.{NumKind}
use Rattle.acn_grammar.specs.declared.node.NumKind.TheVariants.{Integer, Boolean, Enumerated, Null}

-- Faults. A path has child numbers from the root, in a list the number of the element.

pub data LineFault : Type 0 where
  not_json : LineFault
  shape : (path : List ℕ) → LineFault
  unknown_member : (path : List ℕ) → (member : ℕ) → LineFault
  missing_member : (path : List ℕ) → LineFault

-- a part, then what is made of it
abbrev pub after : {A B : Type 0} → Result A LineFault → (A → Result B LineFault) → Result B LineFault
after (Ok a) next = next a
after (Err f) next = Err f

abbrev pub made : {A B : Type 0} → (A → B) → Result A LineFault → Result B LineFault
made f (Ok a) = Ok (f a)
made f (Err e) = Err e

-- another form at a path
abbrev pub or_shape : {A : Type 0} → List ℕ → Option A → Result A LineFault
or_shape path (Some a) = Ok a
or_shape path None = Err (shape path)

-- Strings.

-- the number of the item of a name, the items being numbered from k
abbrev pub item_number : List ℕ → (k : ℕ) → List (List ℕ × ℤ) → Option ℕ
item_number name k [] = None
item_number name k (x ∷ xs) = if same_name x.0 name then Some k else item_number name (k + 1) xs

abbrev pub ok_only : {A : Type 0} → Result A FromHexError → Option A
ok_only (Ok a) = Some a
ok_only (Err e) = None

-- the octets of pairs of hexadecimal digits
abbrev pub octets_of : List ℕ → Option (List ℕ)
octets_of s = ok_only (decode_of s)

abbrev pub is_bit : ℕ → Bool
is_bit c = c == 48 || c == 49

-- the bits of digits 0 and 1
abbrev pub bits_of : List ℕ → Option (List Bool)
bits_of s = if list_all is_bit s then Some (map (λ c. c == 49) s) else None

-- the text, if no character is over 127
abbrev pub ascii_of : List ℕ → Option (List ℕ)
ascii_of s = if list_all (λ c. nat_lt c 128) s then Some s else None

abbrev pub num_from : NumKind → List (List ℕ × ℤ) → json.Data → Option data_words.Data
num_from Integer items j = option_map int (option_and_then as_integer (as_number j))
num_from Boolean items j = option_map boolean (as_bool j)
num_from Enumerated items j = option_map data_words.item (option_and_then (λ s. item_number s 0 items) (as_str j))
num_from Null items j = option_map (λ _. null) (as_null j)

-- Members of objects.

-- a component of this name
abbrev pub has_component : List ℕ → Fields → Bool
has_component k no_fields = false
has_component k (component name g presence default own fs) = if same_name name k then true else has_component k fs
has_component k (inserted name g slot fs) = has_component k fs

-- the number of the first member that is no component
abbrev pub first_unknown : Fields → ℕ → Members → Option ℕ
first_unknown fs i no_members = None
first_unknown fs i (member k j ms) = if has_component k fs then first_unknown fs (i + 1) ms else Some i

abbrev pub if_missing : Bool → Option json.Data → Bool
if_missing may (Some j) = false
if_missing true None = false
if_missing false None = true

-- the number of the first field that has to be there and isn't
abbrev pub first_missing : Members → ℕ → Fields → Option ℕ
first_missing ms k no_fields = None
first_missing ms k (component name g presence default own fs) = if if_missing (may_be_absent presence) (get_member name ms) then Some k else first_missing ms (k + 1) fs
first_missing ms k (inserted name g slot fs) = first_missing ms (k + 1) fs

-- a fault that is there goes first
abbrev pub unless_fault : {A : Type 0} → Option LineFault → Result A LineFault → Result A LineFault
unless_fault (Some f) r = Err f
unless_fault None r = r

-- a record, where each member is a component and none that has to be there is missing
abbrev pub record_from : List ℕ → Fields → Members → Result Places LineFault → Result data_words.Data LineFault
record_from path fields ms places =
    unless_fault (option_map (unknown_member path) (first_unknown fields 0 ms))
    (unless_fault (option_map (λ k. missing_member (path ++ k ∷ [])) (first_missing ms 0 fields))
    (made record_of places))

abbrev pub only_member : Members → Option (List ℕ × json.Data)
only_member no_members = None
only_member (member k j no_members) = Some (k, j)
only_member (member k j (member l i ms)) = None

abbrev pub each_from : (ℕ → json.Data → Result data_words.Data LineFault) → ℕ → Items → Result Elements LineFault
each_from one k no_items = Ok no_elements
each_from one k (item j js) = after (one k j) (λ d. made (element d) (each_from one (k + 1) js))

-- one place in front of others
abbrev pub with_place : Option data_words.Data → Places → Places
with_place None ps = empty ps
with_place (Some d) ps = filled d ps

abbrev pub component_from : (json.Data → Result data_words.Data LineFault) → Option json.Data → Result (Option data_words.Data) LineFault
component_from one None = Ok None
component_from one (Some j) = made Some (one j)

-- The value of JSON at a path, faults in preorder.
abbrev mutual
  pub value_from : List ℕ → Grammar → json.Data → Result data_words.Data LineFault
  value_from path (node align form) j = form_from path form j

  pub form_from : List ℕ → Form → json.Data → Result data_words.Data LineFault
  form_from path (num leaf) j = or_shape path (num_from leaf.kind leaf.items.items j)
  form_from path (octets sizing) j = or_shape path (option_map octet_string (option_and_then octets_of (as_str j)))
  form_from path (bits sizing) j = or_shape path (option_map bit_string (option_and_then bits_of (as_str j)))
  form_from path (text leaf) j = or_shape path (option_map characters (option_and_then ascii_of (as_str j)))
  form_from path (seq fields home) j = after (or_shape path (as_object j)) (λ ms. record_from path fields ms (places_from path 0 fields ms))
  form_from path (list sizing g) j = after (or_shape path (as_array j)) (λ js. made list_of (each_from (λ k i. value_from (path ++ k ∷ []) g i) 0 js))
  form_from path (choice cases rule) j = after (or_shape path (option_and_then only_member (as_object j))) (λ m. alternative_from path 0 cases m.0 m.1)
  form_from path (contained sizing g) j = value_from (path ++ 0 ∷ []) g j

  -- one place for each component, in the order of the packet
  pub places_from : List ℕ → ℕ → Fields → Members → Result Places LineFault
  places_from path k no_fields ms = Ok no_places
  places_from path k (component name g presence default own fs) ms =
      after (component_from (λ i. value_from (path ++ k ∷ []) g i) (get_member name ms)) (λ p. made (with_place p) (places_from path (k + 1) fs ms))
  places_from path k (inserted name g slot fs) ms = places_from path (k + 1) fs ms

  pub alternative_from : List ℕ → ℕ → Alternatives → List ℕ → json.Data → Result data_words.Data LineFault
  alternative_from path i no_alternatives k j = Err (shape path)
  alternative_from path i (alternative name g tests more) k j =
      if same_name name k then made (alt i) (value_from (path ++ i ∷ []) g j) else alternative_from path (i + 1) more k j

-- the JSON that a line is
abbrev pub json_in : List ℕ → Option json.Data
json_in line = if is_utf8 line then read line else None

abbrev pub or_not_json : Option json.Data → Result json.Data LineFault
or_not_json (Some j) = Ok j
or_not_json None = Err not_json

-- what a line gives: the value, or the first fault
abbrev pub line_gives : Grammar → List ℕ → Result data_words.Data LineFault
line_gives g line = after (or_not_json (json_in line)) (value_from [] g)
