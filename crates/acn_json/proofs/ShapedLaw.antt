-- What a line gives has the form of the grammar.
use Rattle.std.proofs.Common.{◌≡◌, ℕ, zero, suc, ◌+◌, ◌-◌, ◌*◌, ◌≤◌, ℤ, Bool, true, false, cond, ◌&&◌, ◌==◌, ◌%◌, nat_lt, nat_le, List, [], ◌∷◌, ◌++◌, length, Option, Some, None, option_map, Result, Ok, Err, refl, sym, subst, arith}
use Rattle.std.specs.Prelude.{option_and_then}
use Rattle.std.specs.List.{list_all}
use Rattle.std.proofs.lemmas.Bool.Decides.{nat_tests}
use Rattle.hex.specs.Hex.{hex_digit_value, digit_or_error, value_at, pair_value, decode_pairs, decode_of, ◌>>=◌}
use Rattle.hex.specs.declared.error.FromHexError.{FromHexError}
use Rattle.hex.specs.declared.error.FromHexError.TheVariants.{OddLength}
use Rattle.serde_json.specs.Data.{Items, no_items, item, Members}
use Rattle.serde_json.specs.Data as json
use Rattle.serde_json.specs.Find.{as_null, as_bool, as_number, as_str, as_array, as_object, as_integer, get_member}
use Rattle.acn_grammar.specs.Asks.{same_name}
use Rattle.acn_grammar.specs.Grammar.{Grammar, Form, Fields, Alternatives, Data, Places, Elements, node, num, octets, bits, text, seq, list, choice, contained, no_fields, component, inserted, no_alternatives, alternative, int, boolean, null, octet_string, bit_string, characters, record_of, list_of, alt, no_places, empty, filled, no_elements, element}
use Rattle.acn_grammar.specs.Grammar as data_words
use Rattle.acn_grammar.specs.Shaped.{fits, form_fits, fields_fit, alternative_fits, each_element, are_octets, num_fits, may_be_absent}
use Rattle.acn_grammar.specs.declared.node.NumKind.{NumKind}
use Rattle.acn_grammar.specs.declared.node.NumKind.TheVariants.{Integer, Boolean, Enumerated, Null}
use Rattle.acn_grammar.specs.declared.node.Presence.{Presence}
use Rattle.std.proofs.lemmas.Bool.{and_parts}
use Rattle.acn_json.specs.Reads.{LineFault, missing_member, unknown_member, after, made, or_shape, item_number, ok_only, octets_of, bits_of, ascii_of, num_from, first_missing, first_unknown, if_missing, unless_fault, record_from, only_member, each_from, with_place, component_from, value_from, form_from, places_from, alternative_from}

abbrev Good : {A : Type 0} → (A → Bool) → Result A LineFault → Type 0
Good p (Ok a) = p a ≡ true
Good p (Err f) = Unit {0}

abbrev GoodSome : {A : Type 0} → (A → Bool) → Option A → Type 0
GoodSome p (Some a) = p a ≡ true
GoodSome p None = Unit {0}

abbrev GoodHex : {A : Type 0} → (A → Bool) → Result A FromHexError → Type 0
GoodHex p (Ok a) = p a ≡ true
GoodHex p (Err f) = Unit {0}

good-or_shape : {A : Type 0} (p : A → Bool) (path : List ℕ) (o : Option A) → GoodSome p o → Good p (or_shape path o)
good-or_shape p path None h = tt
good-or_shape p path (Some a) h = h

good-made : {A B : Type 0} (p : A → Bool) (q : B → Bool) (f : A → B) → ((a : A) → p a ≡ true → q (f a) ≡ true) → (r : Result A LineFault) → Good p r → Good q (made f r)
good-made p q f h (Ok a) g = h a g
good-made p q f h (Err e) g = tt

good-after : {A B : Type 0} (p : A → Bool) (q : B → Bool) (next : A → Result B LineFault) → ((a : A) → p a ≡ true → Good q (next a)) → (r : Result A LineFault) → Good p r → Good q (after r next)
good-after p q next h (Ok a) g = h a g
good-after p q next h (Err e) g = tt

good-unless : {A : Type 0} (p : A → Bool) (o : Option LineFault) (r : Result A LineFault) → (o ≡ None → Good p r) → Good p (unless_fault o r)
good-unless p None r h = h refl
good-unless p (Some f) r h = tt

good-map : {A B : Type 0} (p : A → Bool) (q : B → Bool) (f : A → B) → ((a : A) → p a ≡ true → q (f a) ≡ true) → (o : Option A) → GoodSome p o → GoodSome q (option_map f o)
good-map p q f h (Some a) g = h a g
good-map p q f h None g = tt

good-then : {A B : Type 0} (q : B → Bool) (f : A → Option B) → ((a : A) → GoodSome q (f a)) → (o : Option A) → GoodSome q (option_and_then f o)
good-then q f h (Some a) = h a
good-then q f h None = tt

abbrev any : {A : Type 0} → A → Bool
any a = true

any_some : {A : Type 0} (o : Option A) → GoodSome any o
any_some None = tt
any_some (Some a) = refl

any_result : {A : Type 0} (r : Result A LineFault) → Good any r
any_result (Ok a) = refl
any_result (Err f) = tt

-- Numbers.

below_count : (k n : ℕ) → nat_lt k (k + suc n) ≡ true
below_count k n = grind (arith, nat_tests)

item_at : (b : Bool) (k n : ℕ) (rest : Option ℕ) → GoodSome (λ i. nat_lt i (k + suc n)) rest → GoodSome (λ i. nat_lt i (k + suc n)) (cond b (Some k) rest)
item_at true k n rest h = below_count k n
item_at false k n rest h = h

item_below : (s : List ℕ) (k : ℕ) (xs : List (List ℕ × ℤ)) → GoodSome (λ i. nat_lt i (k + length xs)) (item_number s k xs)
item_below s k [] = tt
item_below s k (x ∷ xs) =
    let e : k + 1 + length xs ≡ k + suc (length xs) = omega arith in
    item_at (same_name x.0 s) k (length xs) (item_number s (k + 1) xs) (subst (λ n. GoodSome (λ i. nat_lt i n) (item_number s (k + 1) xs)) e (item_below s (k + 1) xs))

item_good : (s : List ℕ) (xs : List (List ℕ × ℤ)) → GoodSome (λ i. nat_lt i (length xs)) (item_number s 0 xs)
item_good s xs = let e : 0 + length xs ≡ length xs = omega arith in subst (λ n. GoodSome (λ i. nat_lt i n) (item_number s 0 xs)) e (item_below s 0 xs)

num_good : (kind : NumKind) (items : List (List ℕ × ℤ)) (j : json.Data) → GoodSome (num_fits kind (length items)) (num_from kind items j)
num_good Integer items j = good-map any (num_fits Integer (length items)) int (λ a h. refl) (option_and_then as_integer (as_number j)) (any_some _)
num_good Boolean items j = good-map any (num_fits Boolean (length items)) boolean (λ a h. refl) (as_bool j) (any_some _)
num_good Enumerated items j =
    good-map (λ i. nat_lt i (length items)) (num_fits Enumerated (length items)) data_words.item (λ a h. h) (option_and_then (λ s. item_number s 0 items) (as_str j)) (good-then (λ i. nat_lt i (length items)) (λ s. item_number s 0 items) (λ s. item_good s items) (as_str j))
num_good Null items j = good-map any (num_fits Null (length items)) (λ _. null) (λ a h. refl) (as_null j) (any_some _)

-- Octets.

between_digits : (c low high off : ℕ) → (nat_le low c && nat_le c high) ≡ true → high ≤ off + 15 → nat_lt (c - off) 16 ≡ true
between_digits c low high off h k =
    let a = and_parts (nat_le low c) (nat_le c high) h in
    let b = a.1 in
    grind (arith, nat_tests)

digit_at : (b : Bool) (x : ℕ) (rest : Option ℕ) → (b ≡ true → nat_lt x 16 ≡ true) → GoodSome (λ v. nat_lt v 16) rest → GoodSome (λ v. nat_lt v 16) (cond b (Some x) rest)
digit_at true x rest h g = h refl
digit_at false x rest h g = g

digit_small : (c : ℕ) → GoodSome (λ v. nat_lt v 16) (hex_digit_value c)
digit_small c =
    digit_at (nat_le 65 c && nat_le c 70) (c - 55) _ (λ h. between_digits c 65 70 55 h (omega arith))
    (digit_at (nat_le 97 c && nat_le c 102) (c - 87) _ (λ h. between_digits c 97 102 87 h (omega arith))
    (digit_at (nat_le 48 c && nat_le c 57) (c - 48) None (λ h. between_digits c 48 57 48 h (omega arith)) tt))

value_small_at : (c i : ℕ) (o : Option ℕ) → GoodSome (λ v. nat_lt v 16) o → GoodHex (λ v. nat_lt v 16) (digit_or_error c i o)
value_small_at c i (Some v) h = h
value_small_at c i None h = tt

value_small : (c i : ℕ) → GoodHex (λ v. nat_lt v 16) (value_at c i)
value_small c i = value_small_at c i (hex_digit_value c) (digit_small c)

good-bind : {A B : Type 0} (p : A → Bool) (q : B → Bool) (f : A → Result B FromHexError) → ((a : A) → p a ≡ true → GoodHex q (f a)) → (r : Result A FromHexError) → GoodHex p r → GoodHex q (r >>= f)
good-bind p q f h (Ok a) g = h a g
good-bind p q f h (Err e) g = tt

byte_small : (h l : ℕ) → nat_lt h 16 ≡ true → nat_lt l 16 ≡ true → nat_lt (h * 16 + l) 256 ≡ true
byte_small h l a b = grind (arith, nat_tests)

pair_small : (high low i : ℕ) → GoodHex (λ v. nat_lt v 256) (pair_value high low i)
pair_small high low i =
    good-bind (λ v. nat_lt v 16) (λ v. nat_lt v 256) _ (λ h a. good-bind (λ v. nat_lt v 16) (λ v. nat_lt v 256) _ (λ l b. byte_small h l a b) (value_at low (i + 1)) (value_small low (i + 1))) (value_at high i) (value_small high i)

both_true : (a b : Bool) → a ≡ true → b ≡ true → (a && b) ≡ true
both_true a b h k = rw (h, k) refl

pairs_small : (i : ℕ) (s : List ℕ) → GoodHex are_octets (decode_pairs i s)
unfolding decode_pairs
pairs_small i [] = refl
pairs_small i (d ∷ []) = tt
pairs_small i (high ∷ low ∷ rest) =
    good-bind (λ v. nat_lt v 256) are_octets _ (λ v a. good-bind are_octets are_octets _ (λ vs b. both_true (nat_lt v 256) (are_octets vs) a b) (decode_pairs (i + 2) rest) (pairs_small (i + 2) rest)) (pair_value high low i) (pair_small high low i)

decode_at : (b : Bool) (r : Result (List ℕ) FromHexError) → GoodHex are_octets r → GoodHex are_octets (cond b (Err OddLength) r)
decode_at true r h = tt
decode_at false r h = h

ok_good : {A : Type 0} (p : A → Bool) (r : Result A FromHexError) → GoodHex p r → GoodSome p (ok_only r)
ok_good p (Ok a) h = h
ok_good p (Err e) h = tt

octets_good : (s : List ℕ) → GoodSome are_octets (octets_of s)
octets_good s = ok_good are_octets (decode_of s) (decode_at (length s % 2 == 1) (decode_pairs 0 s) (pairs_small 0 s))

-- Texts.

ascii_octet : (c : ℕ) → nat_lt c 128 ≡ true → nat_lt c 256 ≡ true
ascii_octet c h = grind (arith, nat_tests)

ascii_octets : (s : List ℕ) → list_all (λ c. nat_lt c 128) s ≡ true → are_octets s ≡ true
ascii_octets [] h = refl
ascii_octets (c ∷ s) h =
    let a = and_parts (nat_lt c 128) (list_all (λ c. nat_lt c 128) s) h in
    both_true (nat_lt c 256) (are_octets s) (ascii_octet c a.0) (ascii_octets s a.1)

if_good : {A : Type 0} (p : A → Bool) (b : Bool) (a : A) → (b ≡ true → p a ≡ true) → GoodSome p (cond b (Some a) None)
if_good p true a h = h refl
if_good p false a h = tt

ascii_good : (s : List ℕ) → GoodSome are_octets (ascii_of s)
ascii_good s = if_good are_octets (list_all (λ c. nat_lt c 128) s) s (ascii_octets s)

-- Elements.

each_good : (g : Grammar) (one : ℕ → json.Data → Result Data LineFault) → ((k : ℕ) (j : json.Data) → Good (fits g) (one k j)) → (k : ℕ) (js : Items) → Good (each_element (fits g)) (each_from one k js)
each_good g one h k no_items = refl
each_good g one h k (item j js) =
    good-after (fits g) (each_element (fits g)) _ (λ d a. good-made (each_element (fits g)) (each_element (fits g)) (element d) (λ es b. both_true (fits g d) (each_element (fits g) es) a b) (each_from one (k + 1) js) (each_good g one h (k + 1) js)) (one k j) (h k j)

-- Components.

abbrev place_good : Grammar → Presence → Option Data → Bool
place_good g presence (Some d) = fits g d
place_good g presence None = may_be_absent presence

with_good : (name : List ℕ) (g : Grammar) (presence : Presence) (default : Option (List ℕ)) (own : Option ℕ) (fs : Fields) (o : Option Data) (ps : Places) → place_good g presence o ≡ true → fields_fit fs ps ≡ true → fields_fit (component name g presence default own fs) (with_place o ps) ≡ true
with_good name g presence default own fs None ps a b = both_true (may_be_absent presence) (fields_fit fs ps) a b
with_good name g presence default own fs (Some d) ps a b = both_true (fits g d) (fields_fit fs ps) a b

not_missing : (b : Bool) (k : ℕ) (rest : Option ℕ) → cond b (Some k) rest ≡ None → (b ≡ false) × (rest ≡ None)
not_missing true k rest h = absurd (cc)
not_missing false k rest h = (refl, h)

may_be : (b : Bool) → if_missing b None ≡ false → b ≡ true
may_be true h = refl
may_be false h = cc

component_good : (g : Grammar) (presence : Presence) (one : json.Data → Result Data LineFault) → ((j : json.Data) → Good (fits g) (one j)) → (o : Option json.Data) → if_missing (may_be_absent presence) o ≡ false → Good (place_good g presence) (component_from one o)
component_good g presence one h None m = may_be (may_be_absent presence) m
component_good g presence one h (Some j) m = good-made (fits g) (place_good g presence) Some (λ d a. a) (one j) (h j)

map_none : {A B : Type 0} (f : A → B) (o : Option A) → option_map f o ≡ None → o ≡ None
map_none f None h = refl
map_none f (Some a) h = absurd (cc)

-- Alternatives, the first of them being numbered k.

abbrev alt_fits : ℕ → Alternatives → Data → Bool
alt_fits k cases (alt m d) = nat_le k m && alternative_fits cases (m - k) d
alt_fits k cases d = false

alt_here : (k : ℕ) (name : List ℕ) (g : Grammar) (tests : List Rattle.acn_grammar.specs.declared.node.Test.Test) (more : Alternatives) (d : Data) → fits g d ≡ true → alt_fits k (alternative name g tests more) (alt k d) ≡ true
alt_here k name g tests more d h =
    let z : k - k ≡ zero = omega arith in
    let t : nat_le k k ≡ true = grind (arith, nat_tests) in
    let here : alternative_fits (alternative name g tests more) (k - k) d ≡ true = rw z h in
    both_true (nat_le k k) (alternative_fits (alternative name g tests more) (k - k) d) t here

alt_later : (k : ℕ) (name : List ℕ) (g : Grammar) (tests : List Rattle.acn_grammar.specs.declared.node.Test.Test) (more : Alternatives) (m : ℕ) (d : Data) → alt_fits (k + 1) more (alt m d) ≡ true → alt_fits k (alternative name g tests more) (alt m d) ≡ true
alt_later k name g tests more m d h =
    let a = and_parts (nat_le (k + 1) m) (alternative_fits more (m - (k + 1)) d) h in
    let le = at_most (k + 1) m a.0 in
    let e : m - k ≡ suc (m - (k + 1)) = omega arith in
    let t : nat_le k m ≡ true = is_most k m (omega arith) in
    let there : alternative_fits (alternative name g tests more) (m - k) d ≡ true = rw e a.1 in
    both_true (nat_le k m) (alternative_fits (alternative name g tests more) (m - k) d) t there
  where
    at_most : (a b : ℕ) → nat_le a b ≡ true → a ≤ b
    at_most a b h = grind (arith, nat_tests)

    is_most : (a b : ℕ) → a ≤ b → nat_le a b ≡ true
    is_most a b h = grind (arith, nat_tests)

later_good : (k : ℕ) (name : List ℕ) (g : Grammar) (tests : List Rattle.acn_grammar.specs.declared.node.Test.Test) (more : Alternatives) (d : Data) → alt_fits (k + 1) more d ≡ true → alt_fits k (alternative name g tests more) d ≡ true
later_good k name g tests more (alt m d) h = alt_later k name g tests more m d h
later_good k name g tests more (int x) h = cc
later_good k name g tests more (boolean b) h = cc
later_good k name g tests more (data_words.item i) h = cc
later_good k name g tests more null h = cc
later_good k name g tests more (octet_string os) h = cc
later_good k name g tests more (bit_string bs) h = cc
later_good k name g tests more (characters cs) h = cc
later_good k name g tests more (record_of ps) h = cc
later_good k name g tests more (list_of es) h = cc

weaker : {A : Type 0} (p q : A → Bool) → ((a : A) → p a ≡ true → q a ≡ true) → (r : Result A LineFault) → Good p r → Good q r
weaker p q h (Ok a) g = h a g
weaker p q h (Err f) g = tt

either_good : {A : Type 0} (p : A → Bool) (b : Bool) (r s : Result A LineFault) → Good p r → Good p s → Good p (cond b r s)
either_good p true r s g h = g
either_good p false r s g h = h

first_alt : (cases : Alternatives) (rule : Rattle.acn_grammar.specs.declared.node.ChoiceRule.ChoiceRule) (d : Data) → alt_fits 0 cases d ≡ true → form_fits (choice cases rule) d ≡ true
first_alt cases rule (alt m d) h =
    let a = and_parts (nat_le 0 m) (alternative_fits cases (m - 0) d) h in
    let e : m - 0 ≡ m = omega arith in
    subst (λ n. alternative_fits cases n d ≡ true) e a.1
first_alt cases rule (int x) h = cc
first_alt cases rule (boolean b) h = cc
first_alt cases rule (data_words.item i) h = cc
first_alt cases rule null h = cc
first_alt cases rule (octet_string os) h = cc
first_alt cases rule (bit_string bs) h = cc
first_alt cases rule (characters cs) h = cc
first_alt cases rule (record_of ps) h = cc
first_alt cases rule (list_of es) h = cc

-- The whole.

mutual
  value_good : (g : Grammar) (path : List ℕ) (j : json.Data) → Good (fits g) (value_from path g j)
  value_good (node align form) path j = form_good form path j

  form_good : (form : Form) (path : List ℕ) (j : json.Data) → Good (form_fits form) (form_from path form j)
  form_good (num leaf) path j = good-or_shape (num_fits leaf.kind (length leaf.items.items)) path (num_from leaf.kind leaf.items.items j) (num_good leaf.kind leaf.items.items j)
  form_good (octets sizing) path j =
      good-or_shape (form_fits (octets sizing)) path _ (good-map are_octets (form_fits (octets sizing)) octet_string (λ os h. h) (option_and_then octets_of (as_str j)) (good-then are_octets octets_of (λ s. octets_good s) (as_str j)))
  form_good (bits sizing) path j = good-or_shape (form_fits (bits sizing)) path _ (good-map any (form_fits (bits sizing)) bit_string (λ bs h. refl) (option_and_then bits_of (as_str j)) (any_some _))
  form_good (text leaf) path j =
      good-or_shape (form_fits (text leaf)) path _ (good-map are_octets (form_fits (text leaf)) characters (λ cs h. h) (option_and_then ascii_of (as_str j)) (good-then are_octets ascii_of (λ s. ascii_good s) (as_str j)))
  form_good (seq fields home) path j =
      good-after any (form_fits (seq fields home)) (λ ms. record_from path fields ms (places_from path 0 fields ms))
      (λ ms h. good-unless (form_fits (seq fields home)) (option_map (unknown_member path) (first_unknown fields 0 ms)) _ (λ u.
      good-unless (form_fits (seq fields home)) (option_map (λ k. missing_member (path ++ k ∷ [])) (first_missing ms 0 fields)) _ (λ m.
      good-made (fields_fit fields) (form_fits (seq fields home)) record_of (λ ps q. q) (places_from path 0 fields ms) (fields_good fields path 0 ms (map_none (λ k. missing_member (path ++ k ∷ [])) (first_missing ms 0 fields) m)))))
      (or_shape path (as_object j)) (any_result _)
  form_good (list sizing g) path j =
      good-after any (form_fits (list sizing g)) (λ js. made list_of (each_from (λ k i. value_from (path ++ k ∷ []) g i) 0 js))
      (λ js h. good-made (each_element (fits g)) (form_fits (list sizing g)) list_of (λ es q. q) (each_from (λ k i. value_from (path ++ k ∷ []) g i) 0 js) (each_good g (λ k i. value_from (path ++ k ∷ []) g i) (λ k i. value_good g (path ++ k ∷ []) i) 0 js))
      (or_shape path (as_array j)) (any_result _)
  form_good (choice cases rule) path j =
      good-after any (form_fits (choice cases rule)) (λ m. alternative_from path 0 cases m.0 m.1)
      (λ m h. weaker (alt_fits 0 cases) (form_fits (choice cases rule)) (first_alt cases rule) (alternative_from path 0 cases m.0 m.1) (alternatives_good cases path 0 m.0 m.1))
      (or_shape path (option_and_then only_member (as_object j))) (any_result _)
  form_good (contained sizing g) path j = value_good g (path ++ 0 ∷ []) j

  fields_good : (fs : Fields) (path : List ℕ) (k : ℕ) (ms : Members) → first_missing ms k fs ≡ None → Good (fields_fit fs) (places_from path k fs ms)
  fields_good no_fields path k ms h = refl
  fields_good (component name g presence default own fs) path k ms h =
      let m = not_missing (if_missing (may_be_absent presence) (get_member name ms)) k (first_missing ms (k + 1) fs) h in
      good-after (place_good g presence) (fields_fit (component name g presence default own fs)) _
      (λ o a. good-made (fields_fit fs) (fields_fit (component name g presence default own fs)) (with_place o) (λ ps b. with_good name g presence default own fs o ps a b) (places_from path (k + 1) fs ms) (fields_good fs path (k + 1) ms m.1))
      (component_from (λ i. value_from (path ++ k ∷ []) g i) (get_member name ms))
      (component_good g presence (λ i. value_from (path ++ k ∷ []) g i) (λ i. value_good g (path ++ k ∷ []) i) (get_member name ms) m.0)
  fields_good (inserted name g slot fs) path k ms h = fields_good fs path (k + 1) ms h

  alternatives_good : (cases : Alternatives) (path : List ℕ) (k : ℕ) (name : List ℕ) (j : json.Data) → Good (alt_fits k cases) (alternative_from path k cases name j)
  alternatives_good no_alternatives path k name j = tt
  alternatives_good (alternative n g tests more) path k name j =
      either_good (alt_fits k (alternative n g tests more)) (same_name n name) _ _
      (good-made (fits g) (alt_fits k (alternative n g tests more)) (alt k) (λ d h. alt_here k n g tests more d h) (value_from (path ++ k ∷ []) g j) (value_good g (path ++ k ∷ []) j))
      (weaker (alt_fits (k + 1) more) (alt_fits k (alternative n g tests more)) (later_good k n g tests more) (alternative_from path (k + 1) more name j) (alternatives_good more path (k + 1) name j))

pub gives-fits : (g : Grammar) (path : List ℕ) (j : json.Data) (d : Data) → Ok d ≡ value_from path g j → fits g d ≡ true
gives-fits g path j d h = subst (Good (fits g)) (sym h) (value_good g path j)
