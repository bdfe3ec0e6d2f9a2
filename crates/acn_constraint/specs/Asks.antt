-- Whether `<` stands beside MIN or MAX in a set. Else what the set permits of a number that stood doesn't rest on what else stood,
-- since no number that stood is below MIN or above MAX.
use Rattle.std.specs.Prelude.{Bool, false, ◌||◌, Option, Some, None}
use Rattle.acn_asn_syntax.specs.Mirror.{Set, all_except, union_of, Meets, no_meets, and_meet, Meet, meet_of, Parts, no_parts, and_part, Part, part_of, part_but, Element, value_of, range_of, size_of, from_of, inner_of, Constraint, by_set, by_size, containing}
use Rattle.acn_asn_syntax.specs.declared.values.AsnValue.{AsnValue}

-- of an end that isn't written, and whether `<` leaves it out
abbrev pub asks_end : Option AsnValue → Bool → Bool
asks_end None out = out
asks_end (Some v) out = false

unfoldable mutual
  pub asks_set : Set → Bool
  asks_set (all_except e) = asks_element e
  asks_set (union_of m more) = asks_meet m || asks_meets more

  pub asks_meets : Meets → Bool
  asks_meets no_meets = false
  asks_meets (and_meet word m more) = asks_meet m || asks_meets more

  pub asks_meet : Meet → Bool
  asks_meet (meet_of p more) = asks_part p || asks_parts more

  pub asks_parts : Parts → Bool
  asks_parts no_parts = false
  asks_parts (and_part word p more) = asks_part p || asks_parts more

  pub asks_part : Part → Bool
  asks_part (part_of e) = asks_element e
  asks_part (part_but e but) = asks_element e || asks_element but

  pub asks_element : Element → Bool
  asks_element (value_of v) = false
  asks_element (range_of r) = asks_end r.low r.low_out || asks_end r.high r.high_out
  asks_element (size_of s) = asks_set s
  asks_element (from_of s) = asks_set s
  asks_element (inner_of s) = asks_set s

abbrev pub asks : Constraint → Bool
asks (by_set s) = asks_set s
asks (by_size s) = asks_set s
asks (containing t) = false
