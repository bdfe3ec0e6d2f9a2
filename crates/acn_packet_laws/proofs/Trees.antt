-- Grammars that are well formed, and some that are not.
use Rattle.std.proofs.Common.{◌≡◌, ℕ, zero, suc, ℤ, pos, Bool, true, false, List, [], ◌∷◌, Option, Some, None, refl}
use Rattle.std.specs.Prelude.{neg_ℤ}
use Rattle.acn_grammar.specs.Grammar.{Grammar, Fields, Alternatives, node, num, octets, text, seq, list, choice, no_fields, component, inserted, no_alternatives, alternative}
use Rattle.acn_grammar.specs.Tree.{is_tree}
use Rattle.acn_grammar.specs.declared.node.NumKind.TheVariants.{Integer, Boolean, Enumerated, Null}
use Rattle.acn_grammar.specs.declared.node.NumLeaf.{NumLeaf}
use Rattle.acn_grammar.specs.declared.node.NumCoding.{NumCoding}
use Rattle.acn_grammar.specs.declared.node.NumCoding.TheVariants.{Range, PosInt, Twos, Bcd, Flag, Fixed}
use Rattle.acn_grammar.specs.declared.node.Presence.{Presence}
use Rattle.acn_grammar.specs.declared.node.Presence.TheVariants.{Always, Bit, When}
use Rattle.acn_grammar.specs.declared.node.Test.{Test}
use Rattle.acn_grammar.specs.declared.node.Test.TheVariants.{Flag as IsOn, Equals}
use Rattle.acn_grammar.specs.declared.node.ChoiceRule.TheVariants.{Index, Tests}
use Rattle.acn_grammar.specs.declared.node.SizeRule.{SizeRule}
use Rattle.acn_grammar.specs.declared.node.SizeRule.TheVariants.{Prefix, Slot}

abbrev pub integer : (low high : ℤ) → NumCoding → Grammar
integer low high coding = node 1 (num (record { kind = Integer; set = (low, high) ∷ []; coding = coding; little = false; table = None; items = record { items = []; values = false } }))

abbrev pub u8 : Grammar
u8 = integer (pos 0) (pos 255) (PosInt 8)

abbrev pub boolean_as : (yes' no' : Option (List Bool)) → Grammar
boolean_as p q = node 1 (num (record { kind = Boolean; set = (pos 0, pos 1) ∷ []; coding = Flag p q; little = false; table = None; items = record { items = []; values = false } }))

abbrev pub null_as : NumCoding → Grammar
null_as coding = node 1 (num (record { kind = Null; set = (pos 0, pos 0) ∷ []; coding = coding; little = false; table = None; items = record { items = []; values = false } }))

abbrev pub octets_of : (low high : ℕ) → SizeRule → Grammar
octets_of low high rule = node 1 (octets (record { sizes = (pos low, pos high) ∷ []; rule = rule }))

abbrev pub one : (name : ℕ) → Grammar → Presence → Fields → Fields
one name g presence fs = component (name ∷ []) g presence None None fs

-- SEQUENCE { a INTEGER (0..255), b INTEGER (0..7) }
abbrev pub plain : Grammar
plain = node 1 (seq (one 97 (integer (pos 0) (pos 255) (Range (pos 0) 8)) Always (one 98 (integer (pos 0) (pos 7) (Range (pos 0) 3)) Always no_fields)) [])

plain_is : is_tree plain ≡ true
plain_is = refl

-- not the least width
wide : is_tree (integer (pos 0) (pos 7) (Range (pos 0) 4)) ≡ false
wide = refl

-- len u8, x and y OCTET STRING (SIZE (0..16)) [size len]
abbrev pub shared : (home : List ℕ) → Grammar
shared home = node 1 (seq (inserted (108 ∷ []) u8 (Some 0) (one 120 (octets_of 0 16 (Slot 0)) Always (one 121 (octets_of 0 16 (Slot 0)) Always no_fields))) home)

shared_is : is_tree (shared (0 ∷ [])) ≡ true
shared_is = refl

homeless : is_tree (shared []) ≡ false
homeless = refl

twice : is_tree (shared (0 ∷ 0 ∷ [])) ≡ false
twice = refl

-- flag BOOLEAN, len u8, data OCTET STRING (SIZE (0..16)) OPTIONAL [present-when flag, size len]
abbrev pub flagged : Presence → Grammar
flagged presence = node 1 (seq (inserted (102 ∷ []) (boolean_as None None) (Some 0) (inserted (108 ∷ []) u8 (Some 1) (one 100 (octets_of 0 16 (Slot 1)) presence no_fields))) (0 ∷ 1 ∷ []))

flagged_is : is_tree (flagged (When (IsOn 0 ∷ []))) ≡ true
flagged_is = refl

no_condition : is_tree (flagged (When [])) ≡ false
no_condition = refl

unknown_slot : is_tree (flagged (When (IsOn 2 ∷ []))) ≡ false
unknown_slot = refl

-- Numbers.

abbrev number : NumLeaf → Bool
number leaf = is_tree (node 1 (num leaf))

abbrev mapped : (low high : ℤ) → NumCoding → Bool → List (ℤ × ℤ × ℤ) → NumLeaf
mapped low high coding little lines = record { kind = Integer; set = (low, high) ∷ []; coding = coding; little = little; table = Some (record { name = 109 ∷ []; lines = lines }); items = record { items = []; values = false } }

-- 1..3 = 0 and 4 = 3: one to one
table_is : number (mapped (pos 1) (pos 4) (PosInt 8) false ((pos 1, pos 3, pos 0) ∷ (pos 4, pos 4, pos 3) ∷ [])) ≡ true
table_is = refl

-- 4 = 2 gives an image that 3 has
one_image : number (mapped (pos 1) (pos 4) (PosInt 8) false ((pos 1, pos 3, pos 0) ∷ (pos 4, pos 4, pos 2) ∷ [])) ≡ false
one_image = refl

one_key : number (mapped (pos 1) (pos 3) (PosInt 8) false ((pos 1, pos 3, pos 0) ∷ (pos 3, pos 3, pos 9) ∷ [])) ≡ false
one_key = refl

-- a permitted number without a key
no_key : number (mapped (pos 1) (pos 5) (PosInt 8) false ((pos 1, pos 3, pos 0) ∷ (pos 4, pos 4, pos 3) ∷ [])) ≡ false
no_key = refl

-- the image has to fit, and not the number
far_key : number (mapped (pos 1000) (pos 1003) (PosInt 2) false ((pos 1000, pos 1003, pos 0) ∷ [])) ≡ true
far_key = refl

-- a table wants a size
default_table : number (mapped (pos 0) (pos 3) (Range (pos 0) 2) false ((pos 0, pos 3, pos 0) ∷ [])) ≡ false
default_table = refl

-- 16 bits have another order of octets, 12 have not
little_is : number (mapped (pos 0) (pos 3) (Twos 16) true ((pos 0, pos 3, pos 0) ∷ [])) ≡ true
little_is = refl

little_twelve : number (mapped (pos 0) (pos 3) (Twos 12) true ((pos 0, pos 3, pos 0) ∷ [])) ≡ false
little_twelve = refl

little_digits : number (mapped (pos 0) (pos 3) (Bcd 16) true ((pos 0, pos 3, pos 0) ∷ [])) ≡ false
little_digits = refl

abbrev enumeration : NumCoding → (values : Bool) → List (List ℕ × ℤ) → NumLeaf
enumeration coding values items = record { kind = Enumerated; set = (pos 0, pos 2) ∷ []; coding = coding; little = false; table = None; items = record { items = items; values = values } }

abbrev three : (a b c : ℤ) → List (List ℕ × ℤ)
three a b c = (98 ∷ [], a) ∷ (99 ∷ [], b) ∷ (97 ∷ [], c) ∷ []

-- ENUMERATED { a(5), b, c(1) }: by its index, and by its number in 8 bits or in a range
index_is : number (enumeration (Range (pos 0) 2) false (three (pos 0) (pos 1) (pos 5))) ≡ true
index_is = refl

values_are : number (enumeration (PosInt 8) true (three (pos 0) (pos 1) (pos 5))) ≡ true
values_are = refl

value_range : number (enumeration (Range (pos 0) 3) true (three (pos 0) (pos 1) (pos 5))) ≡ true
value_range = refl

-- the range of the indices is too narrow for the numbers
index_range : number (enumeration (Range (pos 0) 2) true (three (pos 0) (pos 1) (pos 5))) ≡ false
index_range = refl

-- numbers that differ by 2^64 have no default coding
far_values : number (enumeration (Range (neg_ℤ (pos 9223372036854775808)) 64) true (three (neg_ℤ (pos 9223372036854775808)) (pos 1) (pos 9223372036854775808))) ≡ false
far_values = refl

same_values : number (enumeration (PosInt 8) true (three (pos 0) (pos 5) (pos 5))) ≡ false
same_values = refl

same_items : number (enumeration (PosInt 8) true ((98 ∷ [], pos 0) ∷ (98 ∷ [], pos 1) ∷ (97 ∷ [], pos 2) ∷ [])) ≡ false
same_items = refl

fewer_items : number (enumeration (PosInt 8) true ((98 ∷ [], pos 0) ∷ (97 ∷ [], pos 2) ∷ [])) ≡ false
fewer_items = refl

digits_of_items : number (enumeration (Bcd 8) true (three (pos 0) (pos 1) (pos 5))) ≡ false
digits_of_items = refl

-- NULL without a pattern has no bits; BOOLEAN has one
null_is : is_tree (null_as (Range (pos 0) 0)) ≡ true
null_is = refl

null_bit : is_tree (null_as (Range (pos 0) 1)) ≡ false
null_bit = refl

no_pattern : is_tree (null_as (Fixed [])) ≡ false
no_pattern = refl

boolean_range : is_tree (node 1 (num (record { kind = Boolean; set = (pos 0, pos 1) ∷ []; coding = Range (pos 0) 1; little = false; table = None; items = record { items = []; values = false } }))) ≡ false
boolean_range = refl

-- ranges that touch are one range
touching : number (record { kind = Integer; set = (pos 0, pos 3) ∷ (pos 4, pos 7) ∷ []; coding = Range (pos 0) 3; little = false; table = None; items = record { items = []; values = false } }) ≡ false
touching = refl

nothing_permitted : number (record { kind = Integer; set = []; coding = PosInt 3; little = false; table = None; items = record { items = []; values = false } }) ≡ false
nothing_permitted = refl

-- below zero up to 2^63 - 1 at most
too_far : is_tree (integer (neg_ℤ (pos 1)) (pos 9223372036854775808) (Range (neg_ℤ (pos 1)) 64)) ≡ false
too_far = refl

-- Sizes and texts.

size_is : is_tree (octets_of 2 9 (Prefix 2 3)) ≡ true
size_is = refl

size_low : is_tree (octets_of 2 9 (Prefix 0 3)) ≡ false
size_low = refl

size_limit : is_tree (octets_of 0 65537 (Prefix 0 17)) ≡ false
size_limit = refl

abbrev text_of : (low high : ℕ) → (width : ℕ) → (indexed : Bool) → Grammar
text_of low high width indexed = node 1 (text (record { sized = record { sizes = (pos 0, pos 3) ∷ []; rule = Prefix 0 2 }; ended = None; alphabet = (pos low, pos high) ∷ []; width = width; indexed = indexed }))

-- "0".."9" are 10 characters, so places in 4 bits; all 128 have their numbers in 7; 8 bits hold any
ten_is : is_tree (text_of 48 57 4 true) ≡ true
ten_is = refl

all_is : is_tree (text_of 0 127 7 false) ≡ true
all_is = refl

all_places : is_tree (text_of 0 127 7 true) ≡ false
all_places = refl

eight_is : is_tree (text_of 48 57 8 false) ≡ true
eight_is = refl

five_bits : is_tree (text_of 48 57 5 true) ≡ false
five_bits = refl

beyond : is_tree (text_of 0 128 8 false) ≡ false
beyond = refl

-- Fields and alternatives.

abbrev flag : Grammar
flag = boolean_as None None

same_fields : is_tree (node 1 (seq (one 97 flag Always (one 97 flag Always no_fields)) [])) ≡ false
same_fields = refl

other_align : is_tree (node 4 (seq no_fields [])) ≡ false
other_align = refl

inserted_null : is_tree (node 1 (seq (inserted (110 ∷ []) (null_as (Fixed (true ∷ []))) None no_fields) [])) ≡ true
inserted_null = refl

null_slot : is_tree (node 1 (seq (inserted (110 ∷ []) (null_as (Fixed (true ∷ []))) (Some 0) no_fields) (0 ∷ []))) ≡ false
null_slot = refl

no_slot : is_tree (node 1 (seq (inserted (110 ∷ []) u8 None no_fields) [])) ≡ false
no_slot = refl

-- a slot without a use is well formed; the check refuses it
unused : is_tree (node 1 (seq (inserted (110 ∷ []) u8 (Some 0) no_fields) (0 ∷ []))) ≡ true
unused = refl

from_one : is_tree (node 1 (seq (inserted (110 ∷ []) u8 (Some 1) no_fields) (1 ∷ []))) ≡ false
from_one = refl

inserted_octets : is_tree (node 1 (seq (inserted (110 ∷ []) (octets_of 0 16 (Prefix 0 5)) (Some 0) no_fields) (0 ∷ []))) ≡ false
inserted_octets = refl

-- two alternatives, by conditions on t
abbrev cases : (ts us : List Test) → Alternatives
cases ts us = alternative (112 ∷ []) flag ts (alternative (113 ∷ []) u8 us no_alternatives)

abbrev chosen : Grammar → Grammar
chosen g = node 1 (seq (inserted (116 ∷ []) u8 (Some 0) (one 99 g Always no_fields)) (0 ∷ []))

tests_are : is_tree (chosen (node 1 (choice (cases (Equals 0 (pos 1) ∷ []) (Equals 0 (pos 2) ∷ [])) Tests))) ≡ true
tests_are = refl

-- conditions on some alternatives alone are for the check to refuse
mixed : is_tree (chosen (node 1 (choice (cases (Equals 0 (pos 1) ∷ []) []) Tests))) ≡ true
mixed = refl

no_tests : is_tree (node 1 (choice (cases [] []) Tests)) ≡ false
no_tests = refl

index_width : is_tree (node 1 (choice (cases [] []) (Index 1))) ≡ true
index_width = refl

index_too_wide : is_tree (node 1 (choice (cases [] []) (Index 2))) ≡ false
index_too_wide = refl

index_with_tests : is_tree (chosen (node 1 (choice (cases (Equals 0 (pos 1) ∷ []) []) (Index 1)))) ≡ false
index_with_tests = refl

empty_choice : is_tree (node 1 (choice no_alternatives (Index 0))) ≡ false
empty_choice = refl

-- Homes. H ::= SEQUENCE { len, x } and T ::= SEQUENCE { h H, d OCTET STRING [size h.len] }

abbrev header : (home : List ℕ) → Grammar
header home = node 1 (seq (inserted (108 ∷ []) u8 (Some 0) (one 120 flag Always no_fields)) home)

abbrev behind_header : Presence → (inner outer : List ℕ) → Grammar
behind_header presence inner outer = node 1 (seq (one 104 (header inner) presence (one 100 (octets_of 0 3 (Slot 0)) Always no_fields)) outer)

outer_home : is_tree (behind_header Always [] (0 ∷ [])) ≡ true
outer_home = refl

inner_home : is_tree (behind_header Always (0 ∷ []) []) ≡ false
inner_home = refl

both_homes : is_tree (behind_header Always (0 ∷ []) (0 ∷ [])) ≡ false
both_homes = refl

-- what may be absent stands between home and field
through_optional : is_tree (behind_header Bit [] (0 ∷ [])) ≡ false
through_optional = refl

-- a SEQUENCE round the smallest one isn't the home
abbrev inside_one : (inner outer : List ℕ) → Grammar
inside_one inner outer = node 1 (seq (one 115 (shared inner) Always no_fields) outer)

smallest_is : is_tree (inside_one (0 ∷ []) []) ≡ true
smallest_is = refl

not_smallest : is_tree (inside_one [] (0 ∷ [])) ≡ false
not_smallest = refl

-- each element of a list has a slot of its own, which nothing outside uses
abbrev list_of_shared : Grammar → Fields → (outer : List ℕ) → Grammar
list_of_shared g fs outer = node 1 (seq (one 108 (node 1 (list (record { sizes = (pos 0, pos 3) ∷ []; rule = Prefix 0 2 }) g)) Always fs) outer)

inside_list : is_tree (list_of_shared (shared (0 ∷ [])) no_fields []) ≡ true
inside_list = refl

out_of_list : is_tree (list_of_shared (shared []) (one 100 (octets_of 0 3 (Slot 0)) Always no_fields) (0 ∷ [])) ≡ false
out_of_list = refl

-- a slot that is used outside the SEQUENCE in which it is at home
used_outside : is_tree (node 1 (choice (alternative (112 ∷ []) (shared (0 ∷ [])) [] (alternative (113 ∷ []) (octets_of 0 3 (Slot 0)) [] no_alternatives)) (Index 1))) ≡ false
used_outside = refl

-- paths of at most 64 steps
nested : ℕ → Grammar
nested zero = flag
nested (suc n) = node 1 (list (record { sizes = (pos 1, pos 1) ∷ []; rule = Prefix 1 0 }) (nested n))

deep_is : is_tree (nested 64) ≡ true
unfolding nested
deep_is = refl

too_deep : is_tree (nested 65) ≡ false
unfolding nested
too_deep = refl
