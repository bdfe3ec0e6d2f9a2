-- The set that a constraint leaves of what stood before it (X.680 clauses 50 and 51).
use Rattle.std.specs.Prelude.{ℕ, Bool, false, List, [], ◌∷◌, Option, Some, None, if◌then◌else◌, ℤ, pos, ◌+ℤ◌, ◌-ℤ◌}
use Rattle.std.specs.Int.{int_max, int_min}
use Rattle.acn_num.specs.Ranges.{Ranges, meet, union, except, some_range, least, greatest, bottom, top}
use Rattle.acn_asn_syntax.specs.Mirror.{Set, all_except, union_of, Meets, no_meets, and_meet, Meet, meet_of, Parts, no_parts, and_part, Part, part_of, part_but, Element, value_of, range_of, size_of, from_of, inner_of}
use Rattle.acn_asn_syntax.specs.declared.sets.AsnRange.{AsnRange}
use Rattle.acn_asn_syntax.specs.declared.types.Named.{Named}
use Rattle.acn_asn_syntax.specs.declared.values.AsnValue.{AsnValue}
use Rattle.acn_index.specs.World.{World}
use Rattle.acn_constraint.specs.Sized.{sizes_element}
use Rattle.acn_set_elements.specs.Written.{number_in, text_in, character_in}

-- ---- ranges

-- a number, or the end of all sets that is nearer to it; numbers beyond the ends are refused before a set is asked for
abbrev pub nearest : ℤ → ℤ
nearest x = int_max bottom (int_min x top)

-- an end that `<` leaves out
abbrev pub above : Bool → ℤ → ℤ
above out x = if out then x +ℤ pos 1 else x

abbrev pub below : Bool → ℤ → ℤ
below out x = if out then x -ℤ pos 1 else x

abbrev pub between : Option ℤ → Bool → Option ℤ → Bool → Ranges
between None low_out high high_out = []
between (Some low) low_out None high_out = []
between (Some low) low_out (Some high) high_out = some_range (above low_out (nearest low)) (below high_out (nearest high))

-- one number
abbrev pub one : ℤ → Ranges
one x = some_range (nearest x) (nearest x)

abbrev pub ones : Option ℤ → Ranges
ones None = []
ones (Some x) = one x

-- MIN and MAX are the ends of what stood before
abbrev pub end_of : (AsnValue → Option ℤ) → Option ℤ → Option AsnValue → Option ℤ
end_of number stood None = stood
end_of number stood (Some v) = number v

abbrev pub range_in : (AsnValue → Option ℤ) → AsnRange → Ranges → Ranges
range_in number r before = between (end_of number (least before) r.low) r.low_out (end_of number (greatest before) r.high) r.high_out

-- ---- what is read from a set

-- Of what the numbers are: values of an INTEGER with these names, sizes, or characters. SIZE and FROM around a value
-- are the ones that count; where another is asked for they leave what stood before.
pub data Reading : Type 0 where
  numbers : List Named → Reading
  sizes : Reading
  characters : Reading

-- whether what EXCEPT takes from is built of SIZE, which says nothing of characters
abbrev pub is_aside : Reading → Element → Bool
is_aside (numbers ns) e = false
is_aside sizes e = false
is_aside characters e = sizes_element e

-- the characters of a text, with some before them
abbrev pub letters_behind : Ranges → List ℕ → Ranges
letters_behind found [] = found
letters_behind found (c ∷ cs) = letters_behind (union found (one (pos c))) cs

abbrev pub letters : List ℕ → Ranges
letters cs = letters_behind [] cs

abbrev pub letters_of : Option (List ℕ) → Ranges
letters_of None = []
letters_of (Some cs) = letters cs

module _ (w : World) (k : ℕ) where
  abbrev pub value_set : Reading → AsnValue → Ranges
  value_set (numbers ns) v = ones (number_in w ns k v)
  value_set sizes v = ones (number_in w [] k v)
  value_set characters v = letters_of (text_in w k v)

  abbrev pub end_number : Reading → AsnValue → Option ℤ
  end_number (numbers ns) v = number_in w ns k v
  end_number sizes v = number_in w [] k v
  end_number characters v = character_in w k v

  unfoldable mutual
    pub set_in : Reading → Set → Ranges → Ranges
    set_in r (all_except e) before = except before (element_in r e before)
    set_in r (union_of m more) before = meets_in r more (meet_in r m before) before

    -- with these more
    pub meets_in : Reading → Meets → Ranges → Ranges → Ranges
    meets_in r no_meets found before = found
    meets_in r (and_meet b m more) found before = meets_in r more (union found (meet_in r m before)) before

    pub meet_in : Reading → Meet → Ranges → Ranges
    meet_in r (meet_of p more) before = parts_in r more (part_in r p before) before

    pub parts_in : Reading → Parts → Ranges → Ranges → Ranges
    parts_in r no_parts found before = found
    parts_in r (and_part b p more) found before = parts_in r more (meet found (part_in r p before)) before

    pub part_in : Reading → Part → Ranges → Ranges
    part_in r (part_of e) before = element_in r e before
    part_in r (part_but e but) before = if is_aside r e then before else except (element_in r e before) (element_in r but before)

    pub element_in : Reading → Element → Ranges → Ranges
    element_in r (value_of v) before = value_set r v
    element_in r (range_of ends) before = range_in (end_number r) ends before
    element_in sizes (size_of s) before = set_in sizes s before
    element_in (numbers ns) (size_of s) before = before
    element_in characters (size_of s) before = before
    element_in characters (from_of s) before = set_in characters s before
    element_in (numbers ns) (from_of s) before = before
    element_in sizes (from_of s) before = before
    element_in r (inner_of s) before = set_in r s before
