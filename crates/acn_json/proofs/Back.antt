-- A value's JSON gives the value back, where names in one place differ.
use Rattle.std.proofs.Common.{◌≡◌, ℕ, zero, suc, ◌+◌, ◌<◌, ℤ, pos, negsuc, Bool, true, false, cond, not, ◌||◌, ◌==◌, nat_eq, nat_lt, List, [], ◌∷◌, ◌++◌, length, map, Option, Some, None, option_map, Result, Ok, Ordering, Less, Equal, Greater, nat_cmp, refl, sym, ap, subst, ◌∙◌, arith}
use Rattle.std.specs.List.{list_all, list_any}
use Rattle.std.specs.Ordering.{match_ordering}
use Rattle.std.specs.Cmp.Lexicographic.{slice_cmp}
use Rattle.std.proofs.lemmas.Bool.Decides.{nat_tests}
use Rattle.hex.specs.Hex.{IsBytes, encode_lower}
use Rattle.hex.proofs.HexLemmas.{decode_of-encode_lower}
use Rattle.serde_json.specs.Data.{Items, Members, no_members, member, put}
use Rattle.serde_json.specs.Data as json
use Rattle.serde_json.specs.Find.{get_member, of_integer, as_integer}
use Rattle.serde_json.proofs.Views.{get_member-put, get_member-put_other}
use Rattle.acn_grammar.specs.Asks.{same_name}
use Rattle.acn_grammar.specs.Walk.{conditions_of}
use Rattle.acn_grammar.specs.Grammar.{Grammar, Form, Fields, Alternatives, Data, Places, Elements, node, num, octets, bits, text, seq, list, choice, contained, no_fields, component, inserted, no_alternatives, alternative, int, boolean, item, null, octet_string, bit_string, characters, record_of, list_of, alt, no_places, empty, filled, no_elements, element}
use Rattle.acn_grammar.specs.Leaves.{all_differ}
use Rattle.acn_grammar.specs.Shaped.{fits, form_fits, fields_fit, alternative_fits, each_element, are_octets, num_fits, may_be_absent}
use Rattle.acn_grammar.specs.Tree.{field_names}
use Rattle.acn_grammar.specs.declared.node.Presence.{Presence}
use Rattle.acn_grammar.specs.declared.node.Test.{Test}
use Rattle.acn_grammar.specs.declared.node.NumKind.{NumKind}
use Rattle.acn_grammar.specs.declared.node.NumKind.TheVariants.{Integer, Boolean, Enumerated, Null}
use Rattle.std.proofs.lemmas.Bool.{and_parts, not-true, or_parts, ltb-true}
use Rattle.acn_grammar.proofs.Characters.{same_name-is, same_name-refl}
use Rattle.acn_json.specs.Lines.{item_name, bit_digit, num_json, each_json, json_of, form_json, fields_json, alternative_json}
use Rattle.acn_json.specs.Reads.{LineFault, after, made, or_shape, item_number, ok_only, octets_of, is_bit, bits_of, ascii_of, num_from, has_component, first_unknown, first_missing, only_member, each_from, value_from, form_from, places_from, alternative_from}
use Rattle.acn_json.specs.RoundTrip.{CanBeSaid, PlacesCanBeSaid, ElementsCanBeSaid}

-- Names in one place differ.

abbrev pub names_of : Alternatives → List (List ℕ)
names_of cases = map (λ c. c.0) (conditions_of cases)

abbrev mutual
  pub Distinct : Grammar → Type 0
  Distinct (node align form) = FormDistinct form

  pub FormDistinct : Form → Type 0
  FormDistinct (num leaf) = all_differ (λ a b. same_name a.0 b.0) leaf.items.items ≡ true
  FormDistinct (seq fields home) = (all_differ same_name (field_names fields) ≡ true) × FieldsDistinct fields
  FormDistinct (list sizing g) = Distinct g
  FormDistinct (choice cases rule) = (all_differ same_name (names_of cases) ≡ true) × AlternativesDistinct cases
  FormDistinct (contained sizing g) = Distinct g
  FormDistinct _ = Unit {0}

  pub FieldsDistinct : Fields → Type 0
  FieldsDistinct no_fields = Unit {0}
  FieldsDistinct (component name g presence default own fs) = Distinct g × FieldsDistinct fs
  FieldsDistinct (inserted name g slot fs) = FieldsDistinct fs

  pub AlternativesDistinct : Alternatives → Type 0
  AlternativesDistinct no_alternatives = Unit {0}
  AlternativesDistinct (alternative name g tests more) = Distinct g × AlternativesDistinct more

-- Names.

-- Items.

other_item : (n : List ℕ × ℤ) (xs : List (List ℕ × ℤ)) (i : ℕ) → i < length xs → list_any (λ b. same_name n.0 b.0) xs ≡ false → same_name n.0 (item_name xs i) ≡ false
other_item n [] i h e = absurd (omega arith)
other_item n (x ∷ xs) zero h e = (or_parts (same_name n.0 x.0) (list_any (λ b. same_name n.0 b.0) xs) e).0
other_item n (x ∷ xs) (suc i) h e = other_item n xs i (omega arith) (or_parts (same_name n.0 x.0) (list_any (λ b. same_name n.0 b.0) xs) e).1

item_back : (xs : List (List ℕ × ℤ)) (k i : ℕ) → i < length xs → all_differ (λ a b. same_name a.0 b.0) xs ≡ true → item_number (item_name xs i) k xs ≡ Some (k + i)
item_back [] k i h d = absurd (omega arith)
item_back (x ∷ xs) k zero h d = rw (same_name-refl x.0) (let e : k ≡ k + 0 = omega arith in ap Some e)
item_back (x ∷ xs) k (suc i) h d =
    let f = and_parts (not (list_any (λ b. same_name x.0 b.0) xs)) (all_differ (λ a b. same_name a.0 b.0) xs) d in
    let other = other_item x xs i (omega arith) (not-true (list_any (λ b. same_name x.0 b.0) xs) f.0) in
    let e : k + 1 + i ≡ k + suc i = omega arith in
    rw other (item_back xs (k + 1) i (omega arith) f.1 ∙ ap Some e)

less : (a b : ℕ) → nat_lt a b ≡ true → a < b
less a b h = grind (arith, nat_tests)

whole_back : (x : ℤ) → as_integer (of_integer x) ≡ Some x
whole_back (pos n) = refl
whole_back (negsuc n) = refl

num_back : (kind : NumKind) (items : List (List ℕ × ℤ)) (d : Data) → num_fits kind (length items) d ≡ true → all_differ (λ a b. same_name a.0 b.0) items ≡ true → num_from kind items (num_json kind items d) ≡ Some d
num_back Integer items (int x) h e = ap (option_map int) (whole_back x)
num_back Boolean items (boolean b) h e = refl
num_back Enumerated items (item i) h e = ap (option_map item) (item_back items 0 i (less i (length items) h) e ∙ (let z : 0 + i ≡ i = omega arith in ap Some z))
num_back Null items null h e = refl
num_back Integer items (boolean b) h e = cc
num_back Integer items (item i) h e = cc
num_back Integer items null h e = cc
num_back Integer items (octet_string os) h e = cc
num_back Integer items (bit_string bs) h e = cc
num_back Integer items (characters cs) h e = cc
num_back Integer items (record_of ps) h e = cc
num_back Integer items (list_of es) h e = cc
num_back Integer items (alt i d) h e = cc
num_back Boolean items (int x) h e = cc
num_back Boolean items (item i) h e = cc
num_back Boolean items null h e = cc
num_back Boolean items (octet_string os) h e = cc
num_back Boolean items (bit_string bs) h e = cc
num_back Boolean items (characters cs) h e = cc
num_back Boolean items (record_of ps) h e = cc
num_back Boolean items (list_of es) h e = cc
num_back Boolean items (alt i d) h e = cc
num_back Enumerated items (int x) h e = cc
num_back Enumerated items (boolean b) h e = cc
num_back Enumerated items null h e = cc
num_back Enumerated items (octet_string os) h e = cc
num_back Enumerated items (bit_string bs) h e = cc
num_back Enumerated items (characters cs) h e = cc
num_back Enumerated items (record_of ps) h e = cc
num_back Enumerated items (list_of es) h e = cc
num_back Enumerated items (alt i d) h e = cc
num_back Null items (int x) h e = cc
num_back Null items (boolean b) h e = cc
num_back Null items (item i) h e = cc
num_back Null items (octet_string os) h e = cc
num_back Null items (bit_string bs) h e = cc
num_back Null items (characters cs) h e = cc
num_back Null items (record_of ps) h e = cc
num_back Null items (list_of es) h e = cc
num_back Null items (alt i d) h e = cc

-- Strings.

bytes_are : (os : List ℕ) → are_octets os ≡ true → IsBytes os
bytes_are [] h i = omega arith
bytes_are (o ∷ os) h zero = less o 256 (and_parts (nat_lt o 256) (are_octets os) h).0
bytes_are (o ∷ os) h (suc i) = bytes_are os (and_parts (nat_lt o 256) (are_octets os) h).1 i

octets_back : (os : List ℕ) → are_octets os ≡ true → octets_of (encode_lower os) ≡ Some os
octets_back os h = ap ok_only (decode_of-encode_lower os (bytes_are os h))

all_bits : (bs : List Bool) → list_all is_bit (map bit_digit bs) ≡ true
all_bits [] = refl
all_bits (true ∷ bs) = all_bits bs
all_bits (false ∷ bs) = all_bits bs

bits_are : (bs : List Bool) → map (λ c. c == 49) (map bit_digit bs) ≡ bs
bits_are [] = refl
bits_are (true ∷ bs) = ap (λ r. true ∷ r) (bits_are bs)
bits_are (false ∷ bs) = ap (λ r. false ∷ r) (bits_are bs)

bits_back : (bs : List Bool) → bits_of (map bit_digit bs) ≡ Some bs
bits_back bs = rw (all_bits bs) (ap Some (bits_are bs))

text_back : (cs : List ℕ) → list_all (λ c. nat_lt c 128) cs ≡ true → ascii_of cs ≡ Some cs
text_back cs h = rw h refl

-- Elements.

abbrev Back : Grammar → Type 0
Back g = (path : List ℕ) (d : Data) → fits g d ≡ true → CanBeSaid d → value_from path g (json_of g d) ≡ Ok d

each_back : (g : Grammar) → Back g → (path : List ℕ) (k : ℕ) (es : Elements) → each_element (fits g) es ≡ true → ElementsCanBeSaid es → each_from (λ n j. value_from (path ++ n ∷ []) g j) k (each_json (json_of g) es) ≡ Ok es
each_back g b path k no_elements h c = refl
each_back g b path k (element d es) h c =
    let f = and_parts (fits g d) (each_element (fits g) es) h in
    ap (λ r. after r (λ x. made (element x) (each_from (λ n j. value_from (path ++ n ∷ []) g j) (k + 1) (each_json (json_of g) es)))) (b (path ++ k ∷ []) d f.0 c.0)
    ∙ ap (made (element d)) (each_back g b path (k + 1) es f.1 c.1)

-- Members and components.

-- none of the fields' names is among the members
abbrev Fresh : Members → Fields → Type 0
Fresh ms no_fields = Unit {0}
Fresh ms (component name g presence default own fs) = (get_member name ms ≡ None) × Fresh ms fs
Fresh ms (inserted name g slot fs) = Fresh ms fs

fresh_none : (fs : Fields) → Fresh no_members fs
fresh_none no_fields = tt
fresh_none (component name g presence default own fs) = (refl, fresh_none fs)
fresh_none (inserted name g slot fs) = fresh_none fs

not_same : (n m : List ℕ) → same_name n m ≡ false → (m ≡ n → ⊥)
not_same n m h e = let t : same_name n m ≡ true = subst (λ x. same_name n x ≡ true) (sym e) (same_name-refl n) in cc

fresh_put : (name : List ℕ) (j : json.Data) (ms : Members) (fs : Fields) → list_any (same_name name) (field_names fs) ≡ false → Fresh ms fs → Fresh (put name j ms) fs
fresh_put name j ms no_fields h f = tt
fresh_put name j ms (component n g presence default own fs) h f =
    let p = or_parts (same_name name n) (list_any (same_name name) (field_names fs)) h in
    (get_member-put_other n name j ms (not_same name n p.0) ∙ f.0, fresh_put name j ms fs p.1 f.1)
fresh_put name j ms (inserted n g slot fs) h f = fresh_put name j ms fs (or_parts (same_name name n) (list_any (same_name name) (field_names fs)) h).1 f

-- what is there, or isn't, stays so
stays : (q : List ℕ) (found : Members) (fs : Fields) (ps : Places) → list_any (same_name q) (field_names fs) ≡ false → get_member q (fields_json found fs ps) ≡ get_member q found
stays q found no_fields ps h = refl
stays q found (component n g presence default own fs) no_places h = refl
stays q found (component n g presence default own fs) (empty ps) h = stays q found fs ps (or_parts (same_name q n) (list_any (same_name q) (field_names fs)) h).1
stays q found (component n g presence default own fs) (filled d ps) h =
    let p = or_parts (same_name q n) (list_any (same_name q) (field_names fs)) h in
    stays q (put n (json_of g d) found) fs ps p.1 ∙ get_member-put_other q n (json_of g d) found (λ e. not_same q n p.0 (sym e))
stays q found (inserted n g slot fs) ps h = stays q found fs ps (or_parts (same_name q n) (list_any (same_name q) (field_names fs)) h).1

-- the members are those of the components
abbrev Holds : Members → Fields → Places → Type 0
Holds ms (component name g presence default own fs) (filled d ps) = (get_member name ms ≡ Some (json_of g d)) × Holds ms fs ps
Holds ms (component name g presence default own fs) (empty ps) = (get_member name ms ≡ None) × Holds ms fs ps
Holds ms (component name g presence default own fs) no_places = Unit {0}
Holds ms (inserted name g slot fs) ps = Holds ms fs ps
Holds ms no_fields ps = Unit {0}

holds : (found : Members) (fs : Fields) (ps : Places) → all_differ same_name (field_names fs) ≡ true → Fresh found fs → Holds (fields_json found fs ps) fs ps
holds found no_fields ps h f = tt
holds found (component n g presence default own fs) no_places h f = tt
holds found (component n g presence default own fs) (empty ps) h f =
    let p = and_parts (not (list_any (same_name n) (field_names fs))) (all_differ same_name (field_names fs)) h in
    let none = not-true (list_any (same_name n) (field_names fs)) p.0 in
    (stays n found fs ps none ∙ f.0, holds found fs ps p.1 f.1)
holds found (component n g presence default own fs) (filled d ps) h f =
    let p = and_parts (not (list_any (same_name n) (field_names fs))) (all_differ same_name (field_names fs)) h in
    let none = not-true (list_any (same_name n) (field_names fs)) p.0 in
    (stays n (put n (json_of g d) found) fs ps none ∙ get_member-put n (json_of g d) found, holds (put n (json_of g d) found) fs ps p.1 (fresh_put n (json_of g d) found fs none f.1))
holds found (inserted n g slot fs) ps h f = holds found fs ps (and_parts (not (list_any (same_name n) (field_names fs))) (all_differ same_name (field_names fs)) h).1 f

none_missing : (ms : Members) (k : ℕ) (fs : Fields) (ps : Places) → fields_fit fs ps ≡ true → Holds ms fs ps → first_missing ms k fs ≡ None
none_missing ms k no_fields ps h o = refl
none_missing ms k (component n g presence default own fs) no_places h o = cc
none_missing ms k (component n g presence default own fs) (empty ps) h o =
    let p = and_parts (may_be_absent presence) (fields_fit fs ps) h in
    rw (p.0, o.0) (none_missing ms (k + 1) fs ps p.1 o.1)
none_missing ms k (component n g presence default own fs) (filled d ps) h o = rw o.0 (none_missing ms (k + 1) fs ps (and_parts (fits g d) (fields_fit fs ps) h).1 o.1)
none_missing ms k (inserted n g slot fs) ps h o = none_missing ms (k + 1) fs ps h o

-- every member is a component of these
abbrev AllKnown : Fields → Members → Type 0
AllKnown all no_members = Unit {0}
AllKnown all (member k j ms) = (has_component k all ≡ true) × AllKnown all ms

none_unknown : (all : Fields) (i : ℕ) (ms : Members) → AllKnown all ms → first_unknown all i ms ≡ None
none_unknown all i no_members h = refl
none_unknown all i (member k j ms) h = rw h.0 (none_unknown all (i + 1) ms h.1)

known_put_at : (o : Ordering) (all : Fields) (k l : List ℕ) (d e : json.Data) (ms more : Members) → has_component k all ≡ true → AllKnown all (member l e ms) → AllKnown all more → AllKnown all (match_ordering o (member k d (member l e ms)) (member l d ms) (member l e more))
known_put_at Less all k l d e ms more h a r = (h, a)
known_put_at Equal all k l d e ms more h a r = a
known_put_at Greater all k l d e ms more h a r = (a.0, r)

known_put : (all : Fields) (k : List ℕ) (d : json.Data) (ms : Members) → has_component k all ≡ true → AllKnown all ms → AllKnown all (put k d ms)
known_put all k d no_members h a = (h, tt)
known_put all k d (member l e ms) h a = known_put_at (slice_cmp nat_cmp k l) all k l d e ms (put k d ms) h a (known_put all k d ms h a.1)

-- the names of the fields are components of all
abbrev PartOf : Fields → Fields → Type 0
PartOf all no_fields = Unit {0}
PartOf all (component name g presence default own fs) = (has_component name all ≡ true) × PartOf all fs
PartOf all (inserted name g slot fs) = PartOf all fs

all_known : (all : Fields) (found : Members) (fs : Fields) (ps : Places) → PartOf all fs → AllKnown all found → AllKnown all (fields_json found fs ps)
all_known all found no_fields ps p a = a
all_known all found (component n g presence default own fs) no_places p a = a
all_known all found (component n g presence default own fs) (empty ps) p a = all_known all found fs ps p.1 a
all_known all found (component n g presence default own fs) (filled d ps) p a = all_known all (put n (json_of g d) found) fs ps p.1 (known_put all n (json_of g d) found p.0 a)
all_known all found (inserted n g slot fs) ps p a = all_known all found fs ps p a

has_more : (k name : List ℕ) (g : Grammar) (presence : Presence) (default : Option (List ℕ)) (own : Option ℕ) (fs : Fields) → has_component k fs ≡ true → has_component k (component name g presence default own fs) ≡ true
has_more k name g presence default own fs h = go (same_name name k)
  where
    go : (b : Bool) → cond b true (has_component k fs) ≡ true
    go true = refl
    go false = h

part_more : (all fs : Fields) (name : List ℕ) (g : Grammar) (presence : Presence) (default : Option (List ℕ)) (own : Option ℕ) → PartOf all fs → PartOf (component name g presence default own all) fs
part_more all no_fields name g presence default own p = tt
part_more all (component n h q e o fs) name g presence default own p = (has_more n name g presence default own all p.0, part_more all fs name g presence default own p.1)
part_more all (inserted n h slot fs) name g presence default own p = part_more all fs name g presence default own p

part_skip : (all fs : Fields) (name : List ℕ) (g : Grammar) (slot : Option ℕ) → PartOf all fs → PartOf (inserted name g slot all) fs
part_skip all no_fields name g slot p = tt
part_skip all (component n h q e o fs) name g slot p = (p.0, part_skip all fs name g slot p.1)
part_skip all (inserted n h s fs) name g slot p = part_skip all fs name g slot p

part_itself : (fs : Fields) → PartOf fs fs
part_itself no_fields = tt
part_itself (component name g presence default own fs) = (rw (same_name-refl name) refl, part_more fs fs name g presence default own (part_itself fs))
part_itself (inserted name g slot fs) = part_skip fs fs name g slot (part_itself fs)

-- Alternatives.

abbrev at_alternative : List ℕ → Alternatives → ℕ → Data → Result Data LineFault
at_alternative path no_alternatives i d = Ok d
at_alternative path (alternative name g tests more) zero d = value_from path g (json_of g d)
at_alternative path (alternative name g tests more) (suc i) d = at_alternative path more i d

-- the one member's name is one of the names
abbrev NamedIn : List (List ℕ) → Option (List ℕ × json.Data) → Type 0
NamedIn names None = ⊥
NamedIn names (Some m) = (n : List ℕ) → list_any (same_name n) names ≡ false → same_name n m.0 ≡ false

named_in : (cases : Alternatives) (i : ℕ) (d : Data) → alternative_fits cases i d ≡ true → NamedIn (names_of cases) (only_member (alternative_json cases i d))
named_in no_alternatives i d h = cc
named_in (alternative name g tests more) zero d h = λ n e. (or_parts (same_name n name) (list_any (same_name n) (names_of more)) e).0
named_in (alternative name g tests more) (suc i) d h = later (only_member (alternative_json more i d)) (named_in more i d h)
  where
    later : (m : Option (List ℕ × json.Data)) → NamedIn (names_of more) m → NamedIn (name ∷ names_of more) m
    later None o = o
    later (Some m) o = λ n e. o n (or_parts (same_name n name) (list_any (same_name n) (names_of more)) e).1

abbrev led : List ℕ → ℕ → Alternatives → Option (List ℕ × json.Data) → Result Data LineFault
led path k cases o = after (or_shape path o) (λ m. alternative_from path k cases m.0 m.1)

passed : (path : List ℕ) (k : ℕ) (name : List ℕ) (g : Grammar) (tests : List Test) (more : Alternatives) (o : Option (List ℕ × json.Data)) → NamedIn (names_of more) o → list_any (same_name name) (names_of more) ≡ false
    → led path k (alternative name g tests more) o ≡ led path (k + 1) more o
passed path k name g tests more None n h = absurd n
passed path k name g tests more (Some m) n h = rw (n name h) refl

leads : (path : List ℕ) (k : ℕ) (cases : Alternatives) (i : ℕ) (d : Data) → alternative_fits cases i d ≡ true → all_differ same_name (names_of cases) ≡ true
    → led path k cases (only_member (alternative_json cases i d)) ≡ made (alt (k + i)) (at_alternative (path ++ (k + i) ∷ []) cases i d)
leads path k no_alternatives i d h e = cc
leads path k (alternative name g tests more) zero d h e =
    let z : k ≡ k + 0 = omega arith in
    rw (same_name-refl name) (ap (λ n. made (alt n) (value_from (path ++ n ∷ []) g (json_of g d))) z)
leads path k (alternative name g tests more) (suc i) d h e =
    let p = and_parts (not (list_any (same_name name) (names_of more))) (all_differ same_name (names_of more)) e in
    let z : k + 1 + i ≡ k + suc i = omega arith in
    passed path k name g tests more (only_member (alternative_json more i d)) (named_in more i d h) (not-true (list_any (same_name name) (names_of more)) p.0)
    ∙ (leads path (k + 1) more i d h p.1 ∙ ap (λ n. made (alt n) (at_alternative (path ++ n ∷ []) more i d)) z)

-- The whole.

mutual
  pub value_back : (g : Grammar) → Distinct g → Back g
  value_back (node align form) s path d h c = form_back form s path d h c

  form_back : (form : Form) → FormDistinct form → (path : List ℕ) (d : Data) → form_fits form d ≡ true → CanBeSaid d → form_from path form (form_json form d) ≡ Ok d
  form_back (num leaf) s path d h c = ap (or_shape path) (num_back leaf.kind leaf.items.items d h s)
  form_back (octets sizing) s path (octet_string os) h c = ap (λ o. or_shape path (option_map octet_string o)) (octets_back os h)
  form_back (bits sizing) s path (bit_string bs) h c = ap (λ o. or_shape path (option_map bit_string o)) (bits_back bs)
  form_back (text leaf) s path (characters cs) h c = ap (λ o. or_shape path (option_map characters o)) (text_back cs c)
  form_back (seq fields home) s path (record_of ps) h c =
      let ms = fields_json no_members fields ps in
      let o = holds no_members fields ps s.0 (fresh_none fields) in
      let p = fields_back fields s.1 path 0 ps ms h c o in
      rw (none_unknown fields 0 ms (all_known fields no_members fields ps (part_itself fields) tt), none_missing ms 0 fields ps h o) (ap (made record_of) p)
  form_back (list sizing g) s path (list_of es) h c = ap (made list_of) (each_back g (value_back g s) path 0 es h c)
  form_back (choice cases rule) s path (alt i d) h c =
      let z : 0 + i ≡ i = omega arith in
      leads path 0 cases i d h s.0 ∙ (ap (made (alt (0 + i))) (alternatives_back cases s.1 (path ++ (0 + i) ∷ []) i d h c) ∙ ap (λ n. Ok (alt n d)) z)
  form_back (contained sizing g) s path d h c = value_back g s (path ++ 0 ∷ []) d h c
  form_back form s path d h c = cc

  fields_back : (fs : Fields) → FieldsDistinct fs → (path : List ℕ) (k : ℕ) (ps : Places) (ms : Members) → fields_fit fs ps ≡ true → PlacesCanBeSaid ps → Holds ms fs ps → places_from path k fs ms ≡ Ok ps
  fields_back no_fields s path k no_places ms h c o = refl
  fields_back no_fields s path k (empty ps) ms h c o = cc
  fields_back no_fields s path k (filled d ps) ms h c o = cc
  fields_back (component n g presence default own fs) s path k no_places ms h c o = cc
  fields_back (component n g presence default own fs) s path k (empty ps) ms h c o =
      rw o.0 (ap (made empty) (fields_back fs s.1 path (k + 1) ps ms (and_parts (may_be_absent presence) (fields_fit fs ps) h).1 c o.1))
  fields_back (component n g presence default own fs) s path k (filled d ps) ms h c o =
      let p = and_parts (fits g d) (fields_fit fs ps) h in
      rw (o.0, value_back g s.0 (path ++ k ∷ []) d p.0 c.0) (ap (made (filled d)) (fields_back fs s.1 path (k + 1) ps ms p.1 c.1 o.1))
  fields_back (inserted n g slot fs) s path k ps ms h c o = fields_back fs s path (k + 1) ps ms h c o

  alternatives_back : (cases : Alternatives) → AlternativesDistinct cases → (path : List ℕ) (i : ℕ) (d : Data) → alternative_fits cases i d ≡ true → CanBeSaid d → at_alternative path cases i d ≡ Ok d
  alternatives_back no_alternatives s path i d h c = cc
  alternatives_back (alternative name g tests more) s path zero d h c = value_back g s.0 path d h c
  alternatives_back (alternative name g tests more) s path (suc i) d h c = alternatives_back more s.1 path i d h c
