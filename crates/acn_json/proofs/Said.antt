-- The JSON of a value that can be said: whole numbers, ascending members, UTF-8, and not too deep.
use Rattle.std.proofs.Common.{◌≡◌, ℕ, zero, suc, ◌+◌, ◌<◌, ◌≤◌, ◌^◌, ℤ, pos, negsuc, Bool, true, false, nat_lt, List, [], ◌∷◌, ◌++◌, map, Ordering, Less, Equal, Greater, nat_cmp, IsUtf8, refl, arith, decimal}
use Rattle.std.specs.Prelude.{int_le, int_lt, neg_ℤ}
use Rattle.std.specs.List.{list_all}
use Rattle.std.specs.Ordering.{match_ordering}
use Rattle.std.specs.Cmp.Lexicographic.{slice_cmp}
use Rattle.std.specs.Str.{IsAscii}
use Rattle.std.proofs.lemmas.Bool.Decides.{nat_tests}
use Rattle.std.proofs.lemmas.Int.{ints}
use Rattle.std.proofs.lemmas.Fmt.{IsAscii-decimal, IsAscii-signed}
use Rattle.std.proofs.lemmas.Str.{IsUtf8-append, IsUtf8-nil, IsUtf8-from_ascii}
use Rattle.std.proofs.lemmas.Str.Ascii.{IsAscii-nil, IsAscii-cons}
use Rattle.hex.specs.Hex.{encode_lower, lower_digits}
use Rattle.hex.proofs.HexLemmas.{IsAscii-encode_with}
use Rattle.json.specs.Print.{quoted}
use Rattle.json.proofs.Printed.Utf8.{IsUtf8-are_ascii, IsUtf8-quoted, IsUtf8-boolean}
use Rattle.serde_json.specs.Data.{Num, unsigned, negative, float, Items, no_items, item, Members, no_members, member, put, depth, items_depth, members_depth}
use Rattle.serde_json.specs.Data as json
use Rattle.serde_json.specs.Find.{of_integer}
use Rattle.serde_json.specs.Written.{number_text, comma_if, compact_text, items_text, members_text}
use Rattle.acn_grammar.specs.Grammar.{Grammar, Form, Fields, Alternatives, Data, Places, Elements, node, num, octets, bits, text, seq, list, choice, contained, no_fields, component, inserted, no_alternatives, alternative, int, boolean, null, octet_string, bit_string, characters, record_of, list_of, alt, no_places, empty, filled, no_elements, element}
use Rattle.acn_grammar.specs.Grammar as data_words
use Rattle.acn_grammar.specs.Leaves.{is_number}
use Rattle.acn_grammar.specs.declared.node.NumKind.{NumKind}
use Rattle.acn_grammar.specs.declared.node.NumKind.TheVariants.{Integer, Boolean, Enumerated}
use Rattle.std.proofs.lemmas.Bool.{and_parts}
use Rattle.acn_json.specs.Few.{CanRead, FormCanRead, FieldsCanRead, AlternativesCanRead}
use Rattle.acn_json.specs.Lines.{item_name, bit_digit, num_json, each_json, json_of, form_json, fields_json, alternative_json}
use Rattle.acn_json.proofs.Ascending.{ascending}
use Rattle.acn_json.specs.RoundTrip.{NumberIsWhole, CanBeSaid, PlacesCanBeSaid, ElementsCanBeSaid, NamesAreText, HasTextNames, FormHasTextNames, FieldsHaveTextNames, AlternativesHaveTextNames}
use Rattle.acn_json.proofs.Plain.{IsPlain, ItemsArePlain, MembersArePlain}

-- Whole numbers.

small : (n : ℕ) → int_lt (pos n) (pos (2 ^ 64)) ≡ true → n < 2 ^ 64
small n h = grind (arith, ints, nat_tests)

not_low : (n : ℕ) → int_le (neg_ℤ (pos (2 ^ 63))) (negsuc n) ≡ true → n < 2 ^ 63
not_low n h = grind (arith, ints, nat_tests)

whole : (x : ℤ) → is_number x ≡ true → NumberIsWhole (of_integer x)
whole (pos n) h = small n (and_parts (int_le (neg_ℤ (pos (2 ^ 63))) (pos n)) (int_lt (pos n) (pos (2 ^ 64))) h).1
whole (negsuc n) h = not_low n (and_parts (int_le (neg_ℤ (pos (2 ^ 63))) (negsuc n)) (int_lt (negsuc n) (pos (2 ^ 64))) h).0

num_plain : (kind : NumKind) (items : List (List ℕ × ℤ)) (d : Data) → CanBeSaid d → IsPlain (num_json kind items d)
num_plain Integer items (int x) c = whole x c
num_plain Boolean items (boolean b) c = tt
num_plain Enumerated items (data_words.item i) c = tt
num_plain kind items d c = tt

put_plain_at : (o : Ordering) (k l : List ℕ) (d e : json.Data) (ms more : Members) → IsPlain d → MembersArePlain (member l e ms) → MembersArePlain more → MembersArePlain (match_ordering o (member k d (member l e ms)) (member l d ms) (member l e more))
put_plain_at Less k l d e ms more p h r = (p, h)
put_plain_at Equal k l d e ms more p h r = (p, h.1)
put_plain_at Greater k l d e ms more p h r = (h.0, r)

put_plain : (k : List ℕ) (d : json.Data) (ms : Members) → IsPlain d → MembersArePlain ms → MembersArePlain (put k d ms)
put_plain k d no_members p h = (p, tt)
put_plain k d (member l e ms) p h = put_plain_at (slice_cmp nat_cmp k l) k l d e ms (put k d ms) p h (put_plain k d ms p h.1)

each_plain : (one : Data → json.Data) → ((d : Data) → CanBeSaid d → IsPlain (one d)) → (es : Elements) → ElementsCanBeSaid es → ItemsArePlain (each_json one es)
each_plain one h no_elements c = tt
each_plain one h (element d es) c = (h d c.0, each_plain one h es c.1)

mutual
  pub plain : (g : Grammar) (d : Data) → CanBeSaid d → IsPlain (json_of g d)
  plain (node align form) d c = form_plain form d c

  form_plain : (form : Form) (d : Data) → CanBeSaid d → IsPlain (form_json form d)
  form_plain (num leaf) d c = num_plain leaf.kind leaf.items.items d c
  form_plain (octets sizing) (octet_string os) c = tt
  form_plain (bits sizing) (bit_string bs) c = tt
  form_plain (text leaf) (characters cs) c = tt
  form_plain (seq fields home) (record_of ps) c = (ascending fields ps, fields_plain no_members fields ps tt c)
  form_plain (list sizing g) (list_of es) c = each_plain (json_of g) (λ d h. plain g d h) es c
  form_plain (choice cases rule) (alt i d) c = alternative_plain cases i d c
  form_plain (contained sizing g) d c = plain g d c
  form_plain form d c = tt

  fields_plain : (found : Members) (fs : Fields) (ps : Places) → MembersArePlain found → PlacesCanBeSaid ps → MembersArePlain (fields_json found fs ps)
  fields_plain found no_fields ps h c = h
  fields_plain found (component name g presence default own fs) no_places h c = h
  fields_plain found (component name g presence default own fs) (empty ps) h c = fields_plain found fs ps h c
  fields_plain found (component name g presence default own fs) (filled d ps) h c = fields_plain (put name (json_of g d) found) fs ps (put_plain name (json_of g d) found (plain g d c.0) h) c.1
  fields_plain found (inserted name g slot fs) ps h c = fields_plain found fs ps h c

  alternative_plain : (cases : Alternatives) (i : ℕ) (d : Data) → CanBeSaid d → IsPlain (json.object (alternative_json cases i d))
  alternative_plain no_alternatives i d c = (tt, tt)
  alternative_plain (alternative name g tests more) zero d c = ((tt, tt), (plain g d c, tt))
  alternative_plain (alternative name g tests more) (suc i) d c = alternative_plain more i d c

-- Depth.

put_depth_at : (o : Ordering) (a b c : Members) (n : ℕ) → members_depth a ≤ n → members_depth b ≤ n → members_depth c ≤ n → members_depth (match_ordering o a b c) ≤ n
put_depth_at Less a b c n p q r = p
put_depth_at Equal a b c n p q r = q
put_depth_at Greater a b c n p q r = r

put_depth : (k : List ℕ) (d : json.Data) (ms : Members) (n : ℕ) → depth d ≤ n → members_depth ms ≤ n → members_depth (put k d ms) ≤ n
put_depth k d no_members n p q = omega arith
put_depth k d (member l e ms) n p q =
    put_depth_at _ (member k d (member l e ms)) (member l d ms) (member l e (put k d ms)) n (omega arith) (omega arith) (omega (arith, put_depth k d ms n p (omega arith)))

each_deep : (one : Data → json.Data) (n : ℕ) → ((d : Data) → depth (one d) ≤ n) → (es : Elements) → items_depth (each_json one es) ≤ n
each_deep one n h no_elements = omega arith
each_deep one n h (element d es) = (let a = h d in let b = each_deep one n h es in omega arith)

num_flat : (kind : NumKind) (items : List (List ℕ × ℤ)) (d : Data) → depth (num_json kind items d) ≡ 0
num_flat Integer items (int x) = refl
num_flat Boolean items (boolean b) = refl
num_flat Enumerated items (data_words.item i) = refl
num_flat kind items d = refl

mutual
  pub shallow : (k n : ℕ) (g : Grammar) (d : Data) → CanRead k g → 65 ≤ k + n → depth (json_of g d) ≤ n
  shallow k n (node align form) d r h = form_shallow k n form d r.0 r.1 h

  form_shallow : (k n : ℕ) (form : Form) (d : Data) → k ≤ 64 → FormCanRead k form → 65 ≤ k + n → depth (form_json form d) ≤ n
  form_shallow k n (num leaf) d b r h = (let e = num_flat leaf.kind leaf.items.items d in omega arith)
  form_shallow k n (octets sizing) (octet_string os) b r h = omega arith
  form_shallow k n (bits sizing) (bit_string bs) b r h = omega arith
  form_shallow k n (text leaf) (characters cs) b r h = omega arith
  form_shallow k (suc n) (seq fs home) (record_of ps) b r h = (let a = fields_shallow (k + 1) n no_members fs ps r.1 (omega arith) (omega arith) in omega arith)
  form_shallow k zero (seq fs home) (record_of ps) b r h = absurd (omega arith)
  form_shallow k (suc n) (list sizing g) (list_of es) b r h = (let a = each_deep (json_of g) n (λ d. shallow (k + 1) n g d r (omega arith)) es in omega arith)
  form_shallow k zero (list sizing g) (list_of es) b r h = absurd (omega arith)
  form_shallow k (suc n) (choice cases rule) (alt i d) b r h = (let a = alternative_shallow (k + 1) n cases i d r.1 (omega arith) in omega arith)
  form_shallow k zero (choice cases rule) (alt i d) b r h = absurd (omega arith)
  form_shallow k n (contained sizing g) d b r h = shallow (k + 1) n g d r (omega arith)
  form_shallow k n form d b r h = omega arith

  fields_shallow : (k n : ℕ) (found : Members) (fs : Fields) (ps : Places) → FieldsCanRead k fs → members_depth found ≤ n → 65 ≤ k + n → members_depth (fields_json found fs ps) ≤ n
  fields_shallow k n found no_fields ps r a h = a
  fields_shallow k n found (component name g presence default own fs) no_places r a h = a
  fields_shallow k n found (component name g presence default own fs) (empty ps) r a h = fields_shallow k n found fs ps r.1 a h
  fields_shallow k n found (component name g presence default own fs) (filled d ps) r a h =
      fields_shallow k n (put name (json_of g d) found) fs ps r.1 (put_depth name (json_of g d) found n (shallow k n g d r.0 h) a) h
  fields_shallow k n found (inserted name g slot fs) ps r a h = fields_shallow k n found fs ps r a h

  alternative_shallow : (k n : ℕ) (cases : Alternatives) (i : ℕ) (d : Data) → AlternativesCanRead k cases → 65 ≤ k + n → members_depth (alternative_json cases i d) ≤ n
  alternative_shallow k n no_alternatives i d r h = omega arith
  alternative_shallow k n (alternative name g tests more) zero d r h = (let a = shallow k n g d r.0 h in omega arith)
  alternative_shallow k n (alternative name g tests more) (suc i) d r h = alternative_shallow k n more i d r.1 h

-- UTF-8.

abbrev mutual
  IsText : json.Data → Type 0
  IsText (json.string s) = IsUtf8 s
  IsText (json.array ds) = ItemsAreText ds
  IsText (json.object ms) = MembersAreText ms
  IsText d = Unit {0}

  ItemsAreText : Items → Type 0
  ItemsAreText no_items = Unit {0}
  ItemsAreText (item d ds) = IsText d × ItemsAreText ds

  MembersAreText : Members → Type 0
  MembersAreText no_members = Unit {0}
  MembersAreText (member k d ms) = IsUtf8 k × (IsText d × MembersAreText ms)

comma_text : (later : Bool) → IsUtf8 (comma_if later)
comma_text true = IsUtf8-are_ascii (44 ∷ []) refl
comma_text false = IsUtf8-nil

one_text : (c : ℕ) (s : List ℕ) → IsUtf8 (c ∷ []) → IsUtf8 s → IsUtf8 (c ∷ s)
one_text c s a b = IsUtf8-append (c ∷ []) s a b

number_utf8 : (n : Num) → NumberIsWhole n → IsUtf8 (number_text n)
number_utf8 (unsigned n) h = IsUtf8-from_ascii (decimal n) (IsAscii-decimal n h)
number_utf8 (negative (negsuc n)) h = IsUtf8-from_ascii _ (IsAscii-signed (negsuc n) (omega arith))
number_utf8 (negative (pos n)) h = absurd h
number_utf8 (float x) h = absurd h

mutual
  pub text_utf8 : (d : json.Data) → IsPlain d → IsText d → IsUtf8 (compact_text d)
  text_utf8 json.null p h = IsUtf8-are_ascii _ refl
  text_utf8 (json.boolean b) p h = IsUtf8-boolean b
  text_utf8 (json.number n) p h = number_utf8 n p
  text_utf8 (json.string s) p h = IsUtf8-quoted s h
  text_utf8 (json.array ds) p h = one_text 91 (items_text false ds) (IsUtf8-are_ascii (91 ∷ []) refl) (items_utf8 false ds p h)
  text_utf8 (json.object ms) p h = one_text 123 (members_text false ms) (IsUtf8-are_ascii (123 ∷ []) refl) (members_utf8 false ms p.1 h)

  items_utf8 : (later : Bool) (ds : Items) → ItemsArePlain ds → ItemsAreText ds → IsUtf8 (items_text later ds)
  items_utf8 later no_items p h = IsUtf8-are_ascii (93 ∷ []) refl
  items_utf8 later (item d ds) p h = IsUtf8-append (comma_if later) _ (comma_text later) (IsUtf8-append (compact_text d) _ (text_utf8 d p.0 h.0) (items_utf8 true ds p.1 h.1))

  members_utf8 : (later : Bool) (ms : Members) → MembersArePlain ms → MembersAreText ms → IsUtf8 (members_text later ms)
  members_utf8 later no_members p h = IsUtf8-are_ascii (125 ∷ []) refl
  members_utf8 later (member k d ms) p h =
      IsUtf8-append (comma_if later) _ (comma_text later)
      (IsUtf8-append (quoted k) _ (IsUtf8-quoted k h.0)
      (one_text 58 (compact_text d ++ members_text true ms) (IsUtf8-are_ascii (58 ∷ []) refl) (IsUtf8-append (compact_text d) _ (text_utf8 d p.0 h.1.0) (members_utf8 true ms p.1 h.1.1))))

name_utf8 : (items : List (List ℕ × ℤ)) (i : ℕ) → NamesAreText items → IsUtf8 (item_name items i)
name_utf8 [] i h = IsUtf8-nil
name_utf8 (x ∷ xs) zero h = h.0
name_utf8 (x ∷ xs) (suc i) h = name_utf8 xs i h.1

num_text : (kind : NumKind) (items : List (List ℕ × ℤ)) (d : Data) → NamesAreText items → IsText (num_json kind items d)
num_text Integer items (int x) h = tt
num_text Boolean items (boolean b) h = tt
num_text Enumerated items (data_words.item i) h = name_utf8 items i h
num_text kind items d h = tt

below : (n : ℕ) → nat_lt n 128 ≡ true → n < 128
below n h = grind (arith, nat_tests)

ascii_text : (cs : List ℕ) → list_all (λ c. nat_lt c 128) cs ≡ true → IsAscii cs
ascii_text [] h = IsAscii-nil
ascii_text (c ∷ cs) h =
    let a = and_parts (nat_lt c 128) (list_all (λ c. nat_lt c 128) cs) h in
    IsAscii-cons c cs (below c a.0) (ascii_text cs a.1)

bits_ascii : (bs : List Bool) → IsAscii (map bit_digit bs)
bits_ascii [] = IsAscii-nil
bits_ascii (true ∷ bs) = IsAscii-cons 49 (map bit_digit bs) (omega arith) (bits_ascii bs)
bits_ascii (false ∷ bs) = IsAscii-cons 48 (map bit_digit bs) (omega arith) (bits_ascii bs)

lower_ascii : IsAscii lower_digits
lower_ascii = ascii_text lower_digits refl

put_text_at : (o : Ordering) (k l : List ℕ) (d e : json.Data) (ms more : Members) → IsUtf8 k → IsText d → MembersAreText (member l e ms) → MembersAreText more → MembersAreText (match_ordering o (member k d (member l e ms)) (member l d ms) (member l e more))
put_text_at Less k l d e ms more n p h r = (n, (p, h))
put_text_at Equal k l d e ms more n p h r = (h.0, (p, h.1.1))
put_text_at Greater k l d e ms more n p h r = (h.0, (h.1.0, r))

put_text : (k : List ℕ) (d : json.Data) (ms : Members) → IsUtf8 k → IsText d → MembersAreText ms → MembersAreText (put k d ms)
put_text k d no_members n p h = (n, (p, tt))
put_text k d (member l e ms) n p h = put_text_at (slice_cmp nat_cmp k l) k l d e ms (put k d ms) n p h (put_text k d ms n p h.1.1)

each_text : (one : Data → json.Data) → ((d : Data) → CanBeSaid d → IsText (one d)) → (es : Elements) → ElementsCanBeSaid es → ItemsAreText (each_json one es)
each_text one h no_elements c = tt
each_text one h (element d es) c = (h d c.0, each_text one h es c.1)

mutual
  pub is_text : (g : Grammar) (d : Data) → HasTextNames g → CanBeSaid d → IsText (json_of g d)
  is_text (node align form) d n c = form_text form d n c

  form_text : (form : Form) (d : Data) → FormHasTextNames form → CanBeSaid d → IsText (form_json form d)
  form_text (num leaf) d n c = num_text leaf.kind leaf.items.items d n
  form_text (octets sizing) (octet_string os) n c = IsUtf8-from_ascii (encode_lower os) (IsAscii-encode_with lower_digits os lower_ascii)
  form_text (bits sizing) (bit_string bs) n c = IsUtf8-from_ascii (map bit_digit bs) (bits_ascii bs)
  form_text (text leaf) (characters cs) n c = IsUtf8-from_ascii cs (ascii_text cs c)
  form_text (seq fields home) (record_of ps) n c = fields_text no_members fields ps tt n c
  form_text (list sizing g) (list_of es) n c = each_text (json_of g) (λ d h. is_text g d n h) es c
  form_text (choice cases rule) (alt i d) n c = alternative_text cases i d n c
  form_text (contained sizing g) d n c = is_text g d n c
  form_text form d n c = tt

  fields_text : (found : Members) (fs : Fields) (ps : Places) → MembersAreText found → FieldsHaveTextNames fs → PlacesCanBeSaid ps → MembersAreText (fields_json found fs ps)
  fields_text found no_fields ps h n c = h
  fields_text found (component name g presence default own fs) no_places h n c = h
  fields_text found (component name g presence default own fs) (empty ps) h n c = fields_text found fs ps h n.2 c
  fields_text found (component name g presence default own fs) (filled d ps) h n c = fields_text (put name (json_of g d) found) fs ps (put_text name (json_of g d) found n.0 (is_text g d n.1 c.0) h) n.2 c.1
  fields_text found (inserted name g slot fs) ps h n c = fields_text found fs ps h n c

  alternative_text : (cases : Alternatives) (i : ℕ) (d : Data) → AlternativesHaveTextNames cases → CanBeSaid d → MembersAreText (alternative_json cases i d)
  alternative_text no_alternatives i d n c = tt
  alternative_text (alternative name g tests more) zero d n c = (n.0, (is_text g d n.1 c, tt))
  alternative_text (alternative name g tests more) (suc i) d n c = alternative_text more i d n.2 c
