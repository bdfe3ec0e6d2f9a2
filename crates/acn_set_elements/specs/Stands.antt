-- Which elements may stand in a constraint of which type (this profile's own choice among X.680's subtype elements).
use Rattle.std.specs.Prelude.{ℕ, Bool, true, false, ◌&&◌, ◌||◌, List, [], ◌∷◌, Option, Some, None, is_some, filter}
use Rattle.std.specs.List.{list_all}
use Rattle.acn_asn_syntax.specs.Mirror.{Set, all_except, union_of, Meets, no_meets, and_meet, Meet, meet_of, Parts, no_parts, and_part, Part, part_of, part_but, Element, value_of, range_of, size_of, from_of, inner_of, AsnBase, integer, octet_string, bit_string, ia5_string, sequence_of, sequence_size, Constraint, by_set, by_size, containing}
use Rattle.acn_asn_syntax.specs.declared.sets.AsnRange.{AsnRange}
use Rattle.acn_asn_syntax.specs.declared.types.Named.{Named}
use Rattle.acn_asn_syntax.specs.declared.values.AsnValue.{AsnValue}
use Rattle.acn_index.specs.World.{World}
use Rattle.acn_set_elements.specs.Written.{number_in, text_in, character_in, named_of}

-- What a set is built of: numbers alone, texts alone, SIZE alone.
pub data Built : Type 0 where
  of_numbers : List Named → Built
  of_texts : Built
  of_sizes : Built

-- whether values of the type have a size
abbrev pub has_sizes : AsnBase → Bool
has_sizes octet_string = true
has_sizes bit_string = true
has_sizes ia5_string = true
has_sizes (sequence_of t) = true
has_sizes (sequence_size c t) = true
has_sizes _ = false

-- whether they are octets
abbrev pub is_octets : AsnBase → Bool
is_octets octet_string = true
is_octets _ = false

module _ (w : World) (k : ℕ) where
  abbrev pub is_number : List Named → AsnValue → Bool
  is_number ns v = is_some (number_in w ns k v)

  abbrev pub is_text : AsnValue → Bool
  is_text v = is_some (text_in w k v)

  abbrev pub is_character : AsnValue → Bool
  is_character v = is_some (character_in w k v)

  abbrev pub value_fits : Built → AsnValue → Bool
  value_fits (of_numbers ns) v = is_number ns v
  value_fits of_texts v = is_text v
  value_fits of_sizes v = false

  -- an end of a range, where it is written: a number among numbers, one character among texts
  abbrev pub end_fits : Built → Option AsnValue → Bool
  end_fits of_sizes end = false
  end_fits (of_numbers ns) None = true
  end_fits of_texts None = true
  end_fits (of_numbers ns) (Some v) = is_number ns v
  end_fits of_texts (Some v) = is_character v

  abbrev pub range_fits : Built → AsnRange → Bool
  range_fits b r = end_fits b r.low && end_fits b r.high

  -- Sizes stand by themselves inside SIZE, and texts inside FROM. ALL EXCEPT takes from values, not from SIZE.
  unfoldable mutual
    pub built : Built → Set → Bool
    built (of_numbers ns) (all_except e) = element_built (of_numbers ns) e
    built of_texts (all_except e) = element_built of_texts e
    built of_sizes (all_except e) = false
    built b (union_of m more) = meet_built b m && meets_built b more

    pub meets_built : Built → Meets → Bool
    meets_built b no_meets = true
    meets_built b (and_meet word m more) = meet_built b m && meets_built b more

    pub meet_built : Built → Meet → Bool
    meet_built b (meet_of p more) = part_built b p && parts_built b more

    pub parts_built : Built → Parts → Bool
    parts_built b no_parts = true
    parts_built b (and_part word p more) = part_built b p && parts_built b more

    pub part_built : Built → Part → Bool
    part_built b (part_of e) = element_built b e
    part_built b (part_but e but) = element_built b e && element_built b but

    pub element_built : Built → Element → Bool
    element_built b (value_of v) = value_fits b v
    element_built b (range_of r) = range_fits b r
    element_built of_sizes (size_of s) = built (of_numbers []) s
    element_built (of_numbers ns) (size_of s) = false
    element_built of_texts (size_of s) = false
    element_built b (from_of s) = false
    element_built b (inner_of s) = built b s

  -- A constraint of a string of characters is a meet of parts, each built of SIZE alone or one FROM.
  abbrev pub is_from : Part → Bool
  is_from (part_of (from_of s)) = built of_texts s
  is_from _ = false

  abbrev pub text_part : Part → Bool
  text_part p = part_built of_sizes p || is_from p

  abbrev pub text_parts : Parts → Bool
  text_parts no_parts = true
  text_parts (and_part word p more) = text_part p && text_parts more

  abbrev pub text_meet : Meet → Bool
  text_meet (meet_of p more) = text_part p && text_parts more

  -- several meets are one part, built of SIZE alone
  abbrev pub text_set : Set → Bool
  text_set (all_except e) = false
  text_set (union_of m no_meets) = text_meet m
  text_set (union_of m (and_meet word n more)) = meet_built of_sizes m && meets_built of_sizes (and_meet word n more)

  -- ---- on which type

  abbrev pub set_stands : AsnBase → Set → Bool
  set_stands (integer ns) s = built (of_numbers (named_of (integer ns))) s
  set_stands octet_string s = built of_sizes s
  set_stands bit_string s = built of_sizes s
  set_stands (sequence_of t) s = built of_sizes s
  set_stands (sequence_size c t) s = built of_sizes s
  set_stands ia5_string s = text_set s
  set_stands _ s = false

  -- SIZE without parentheses
  abbrev pub size_stands : AsnBase → Set → Bool
  size_stands base s = has_sizes base && built (of_numbers []) s

  abbrev pub stands : AsnBase → Constraint → Bool
  stands base (by_set s) = set_stands base s
  stands base (by_size s) = size_stands base s
  stands base (containing t) = is_octets base

abbrev pub is_containing : ℕ × Constraint → Bool
is_containing (k, containing t) = true
is_containing _ = false

abbrev pub at_most_one : {A : Type 0} → List A → Bool
at_most_one [] = true
at_most_one (x ∷ []) = true
at_most_one (x ∷ y ∷ xs) = false

-- each constraint may stand on this type, and CONTAINING stands once
unfoldable pub all_stand : World → AsnBase → List (ℕ × Constraint) → Bool
all_stand w base cs = list_all (λ (c : ℕ × Constraint). stands w c.0 base c.1) cs && at_most_one (filter is_containing cs)
