-- What the constraints of a chain leave: numbers, sizes and characters, or the fault that is theirs.
use Rattle.std.specs.Prelude.{ℕ, Bool, true, false, not, ◌||◌, ◌&&◌, List, [], ◌∷◌, ◌++◌, Option, Some, None, option_and_then, if◌then◌else◌, ℤ, pos, negsuc, int_lt, Result, Ok, Err}
use Rattle.std.specs.List.{filter_map, flat_map, list_any}
use Rattle.acn_num.specs.Ranges.{Ranges, has, meet, bottom, top, least, greatest}
use Rattle.acn_asn_syntax.specs.Mirror.{Set, all_except, union_of, Meets, no_meets, and_meet, Meet, meet_of, Parts, no_parts, and_part, Part, part_of, part_but, Element, value_of, range_of as range_element, size_of as size_element, from_of, inner_of, AsnBase, sequence_size, Constraint, by_set, by_size, containing}
use Rattle.acn_asn_syntax.specs.declared.types.Named.{Named}
use Rattle.acn_asn_syntax.specs.declared.values.AsnValue.{AsnValue}
use Rattle.acn_index.specs.World.{World}
use Rattle.acn_index.specs.Chains.{ChainOf, base_part}
use Rattle.acn_set_elements.specs.Written.{number_in, named_of}
use Rattle.acn_constraint.specs.Sized.{sizes_set}
use Rattle.acn_constraint.specs.Sets.{Reading, numbers, sizes, characters, set_in}
use Rattle.acn_set_elements.specs.Stands.{all_stand}
use Rattle.acn_num.specs.declared.limits.TheConstants.{MOST_SIZE}

-- ---- the constraints of a chain, from the base outward, the one between SEQUENCE and OF first

abbrev pub own_constraint : ℕ → AsnBase → List (ℕ × Constraint)
own_constraint k (sequence_size c t) = (k, c) ∷ []
own_constraint k _ = []

abbrev pub base_is : ChainOf → AsnBase
base_is chain = base_part chain.base

abbrev pub constraints_of : ChainOf → List (ℕ × Constraint)
constraints_of chain = own_constraint chain.owner (base_is chain) ++ chain.constraints

-- each is evaluated against what stood before, and met with it
abbrev pub left_by : World → Reading → ℕ × Constraint → Ranges → Ranges
left_by w r (k, by_set s) before = meet before (set_in w k r s before)
left_by w sizes (k, by_size s) before = meet before (set_in w k sizes s before)
left_by w (numbers ns) (k, by_size s) before = before
left_by w characters (k, by_size s) before = before
left_by w r (k, containing t) before = before

abbrev pub met : World → Reading → List (ℕ × Constraint) → Ranges → Ranges
met w r [] before = before
met w r (c ∷ cs) before = met w r cs (left_by w r c before)

unfoldable pub numbers_of : World → ChainOf → Ranges
numbers_of w chain = met w (numbers (named_of (base_is chain))) (constraints_of chain) ((bottom, top) ∷ [])

unfoldable pub sizes_of : World → ChainOf → Ranges
sizes_of w chain = met w sizes (constraints_of chain) ((pos 0, top) ∷ [])

unfoldable pub characters_of : World → ChainOf → Ranges
characters_of w chain = met w characters (constraints_of chain) ((pos 0, pos 127) ∷ [])

-- ---- open sets: the two ends stand for "without bound" and are taken out

abbrev pub bounded : Ranges → Ranges
bounded s = meet s ((negsuc 9223372036854775807, pos 18446744073709551615) ∷ [])

abbrev pub starts_negative : Option ℤ → Bool
starts_negative None = false
starts_negative (Some x) = int_lt x (pos 0)

-- A set that is open below, or that begins below 0, ends at the greatest number with a sign of 64 bits.
abbrev pub within_words : Bool → Ranges → Ranges
within_words false s = s
within_words true s = meet s ((negsuc 9223372036854775807, pos 9223372036854775807) ∷ [])

unfoldable pub closed : Ranges → Ranges
closed s = within_words (has s bottom || starts_negative (least (bounded s))) (bounded s)

pub record Opened : Type 0 where
  pub numbers : Ranges
  pub open_below : Bool
  pub open_above : Bool

abbrev pub opened : Ranges → Opened
opened s = record { numbers = closed s; open_below = has s bottom; open_above = has s top }

-- ---- whether a SIZE is written

abbrev pub gives_size : ℕ × Constraint → Bool
gives_size (k, by_set s) = sizes_set s
gives_size (k, by_size s) = true
gives_size (k, containing t) = false

unfoldable pub has_size : ChainOf → Bool
has_size chain = list_any gives_size (constraints_of chain)

-- ---- the numbers that are written, in the order of the text

abbrev pub end_values : Option AsnValue → List AsnValue
end_values None = []
end_values (Some v) = v ∷ []

unfoldable mutual
  pub set_values : Set → List AsnValue
  set_values (all_except e) = element_values e
  set_values (union_of m more) = meet_values m ++ meets_values more

  pub meets_values : Meets → List AsnValue
  meets_values no_meets = []
  meets_values (and_meet word m more) = meet_values m ++ meets_values more

  pub meet_values : Meet → List AsnValue
  meet_values (meet_of p more) = part_values p ++ parts_values more

  pub parts_values : Parts → List AsnValue
  parts_values no_parts = []
  parts_values (and_part word p more) = part_values p ++ parts_values more

  pub part_values : Part → List AsnValue
  part_values (part_of e) = element_values e
  part_values (part_but e but) = element_values e ++ element_values but

  pub element_values : Element → List AsnValue
  element_values (value_of v) = v ∷ []
  element_values (range_element r) = end_values r.low ++ end_values r.high
  element_values (size_element s) = set_values s
  element_values (from_of s) = set_values s
  element_values (inner_of s) = set_values s

abbrev pub values_of : Constraint → List AsnValue
values_of (by_set s) = set_values s
values_of (by_size s) = set_values s
values_of (containing t) = []

-- a number below the least one that can be kept
abbrev pub too_low : ℤ → Option ℤ
too_low x = if int_lt x (negsuc 9223372036854775807) then Some x else None

abbrev pub first : {A : Type 0} → List A → Option A
first [] = None
first (x ∷ xs) = Some x

abbrev pub low_number : World → List Named → ℕ → AsnValue → Option ℤ
low_number w ns k v = option_and_then too_low (number_in w ns k v)

-- the first of these values that is too low a number
abbrev pub low_among : World → List Named → ℕ → List AsnValue → Option ℤ
low_among w ns k vs = first (filter_map (low_number w ns k) vs)

abbrev pub low_numbers : World → List Named → ℕ × Constraint → List ℤ
low_numbers w ns c = filter_map (low_number w ns c.0) (values_of c.1)

unfoldable pub first_low : World → ChainOf → Option ℤ
first_low w chain = first (flat_map (low_numbers w (named_of (base_is chain))) (constraints_of chain))

-- ---- the answers: the faults are tried in this order

pub data Fault : Type 0 where
  not_here : Fault
  too_wide : ℤ → Fault
  empty : Fault
  unbounded : Fault
  size_limit : ℤ → Fault

-- NotHere, then TooWide; then what the sets themselves say
abbrev pub unless : {A : Type 0} → Bool → Fault → Result A Fault → Result A Fault
unless false f next = Err f
unless true f next = next

abbrev pub unless_low : {A : Type 0} → Option ℤ → Result A Fault → Result A Fault
unless_low (Some x) next = Err (too_wide x)
unless_low None next = next

unfoldable pub judged : {A : Type 0} → World → ChainOf → Result A Fault → Result A Fault
judged w chain next = unless (all_stand w (base_is chain) (constraints_of chain)) not_here (unless_low (first_low w chain) next)

abbrev pub is_empty : Ranges → Bool
is_empty [] = true
is_empty (r ∷ rs) = false

abbrev pub not_empty : {A : Type 0} → Ranges → Result A Fault → Result A Fault
not_empty [] next = Err empty
not_empty (r ∷ rs) next = next

abbrev pub limited : Ranges → Option ℤ → Result (Option Ranges) Fault
limited s None = Ok (Some s)
limited s (Some most) = if int_lt (pos MOST_SIZE) most then Err (size_limit most) else Ok (Some s)

abbrev pub sized : Bool → Ranges → Result (Option Ranges) Fault
sized false s = Ok None
sized true s = not_empty s (unless (not (has s top)) unbounded (limited s (greatest s)))

-- the numbers of an INTEGER
abbrev pub range_left : World → ChainOf → Result Opened Fault
range_left w chain = not_empty (closed (numbers_of w chain)) (Ok (opened (numbers_of w chain)))

unfoldable pub range_of : World → ChainOf → Result Opened Fault
range_of w chain = judged w chain (range_left w chain)

-- the sizes of a string or list; none where no SIZE is written
abbrev pub size_left : World → ChainOf → Result (Option Ranges) Fault
size_left w chain = sized (has_size chain) (sizes_of w chain)

unfoldable pub size_of : World → ChainOf → Result (Option Ranges) Fault
size_of w chain = judged w chain (size_left w chain)

-- the characters of a string
abbrev pub alphabet_left : World → ChainOf → Result Ranges Fault
alphabet_left w chain = not_empty (characters_of w chain) (Ok (characters_of w chain))

unfoldable pub alphabet_of : World → ChainOf → Result Ranges Fault
alphabet_of w chain = judged w chain (alphabet_left w chain)

-- the sizes and the characters of a text
pub record Texts : Type 0 where
  pub sizes : Ranges
  pub characters : Ranges

abbrev pub limited_text : Ranges → Ranges → Option ℤ → Result Texts Fault
limited_text s cs None = Ok (record { sizes = s; characters = cs })
limited_text s cs (Some most) = if int_lt (pos MOST_SIZE) most then Err (size_limit most) else Ok (record { sizes = s; characters = cs })

-- Each fault is looked for in both before the next one is. A SIZE that isn't written is no bound.
abbrev pub texts_left : Bool → Ranges → Ranges → Result Texts Fault
texts_left written s cs = not_empty s (not_empty cs (unless (written && not (has s top)) unbounded (limited_text s cs (greatest s))))

abbrev pub text_left : World → ChainOf → Result Texts Fault
text_left w chain = texts_left (has_size chain) (sizes_of w chain) (characters_of w chain)

unfoldable pub text_of : World → ChainOf → Result Texts Fault
text_of w chain = judged w chain (text_left w chain)
