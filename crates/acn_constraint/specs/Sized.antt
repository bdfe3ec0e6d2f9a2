-- Whether a SIZE is written in a set, outside FROM.
use Rattle.std.specs.Prelude.{Bool, true, false, ◌||◌}
use Rattle.acn_asn_syntax.specs.Mirror.{Set, all_except, union_of, Meets, no_meets, and_meet, Meet, meet_of, Parts, no_parts, and_part, Part, part_of, part_but, Element, value_of, range_of, size_of, from_of, inner_of}

unfoldable mutual
  pub sizes_set : Set → Bool
  sizes_set (all_except e) = sizes_element e
  sizes_set (union_of m more) = sizes_meet m || sizes_meets more

  pub sizes_meets : Meets → Bool
  sizes_meets no_meets = false
  sizes_meets (and_meet word m more) = sizes_meet m || sizes_meets more

  pub sizes_meet : Meet → Bool
  sizes_meet (meet_of p more) = sizes_part p || sizes_parts more

  pub sizes_parts : Parts → Bool
  sizes_parts no_parts = false
  sizes_parts (and_part word p more) = sizes_part p || sizes_parts more

  pub sizes_part : Part → Bool
  sizes_part (part_of e) = sizes_element e
  sizes_part (part_but e but) = sizes_element e || sizes_element but

  pub sizes_element : Element → Bool
  sizes_element (value_of v) = false
  sizes_element (range_of r) = false
  sizes_element (size_of s) = true
  sizes_element (from_of s) = false
  sizes_element (inner_of s) = sizes_set s
