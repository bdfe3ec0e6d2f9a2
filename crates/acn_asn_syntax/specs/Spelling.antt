-- The tokens of sets and types, and which of them are proper. The productions are those of X.680 and X.682 (08/2015), as far as this profile reads them.
use Rattle.std.specs.Prelude.{ℕ, Bool, true, false, ◌&&◌, if◌then◌else◌, List, [], ◌∷◌, ◌++◌, Option, Some, None, codes}
use Rattle.std.specs.List.{list_all}
use Rattle.acn_lex.specs.Words.{is_identifier, is_reference}
use Rattle.acn_asn_syntax.specs.declared.types.TagClass.{TagClass}
use Rattle.acn_asn_syntax.specs.declared.types.TagClass.TheVariants as class
use Rattle.acn_asn_syntax.specs.declared.types.TagMode.{TagMode}
use Rattle.acn_asn_syntax.specs.declared.types.TagMode.TheVariants as mode
use Rattle.acn_asn_syntax.specs.declared.types.Tag.{Tag}
use Rattle.acn_asn_syntax.specs.declared.types.Named.{Named}
use Rattle.acn_asn_syntax.specs.declared.types.Item.{Item}
use Rattle.acn_asn_syntax.specs.declared.types.Rest.{Rest}
use Rattle.acn_asn_syntax.specs.declared.types.Rest.TheVariants as rest
use Rattle.acn_asn_syntax.specs.Mirror.{Set, Meets, Meet, Parts, Part, Element, AsnType, AsnBase, Constraints, Constraint, Components, Alternatives, all_except, union_of, no_meets, and_meet, meet_of, no_parts, and_part, part_of, part_but, value_of, range_of, size_of, from_of, inner_of, type_of, boolean, null, integer, enumerated, octet_string, bit_string, ia5_string, sequence, sequence_of, sequence_size, choice, reference, no_constraints, and_constraint, by_set, by_size, containing, no_components, and_component, no_alternatives, and_alternative}
use Rattle.acn_asn_syntax.specs.Values.{Tokens, word, mark, number, number_fits, signed_tokens, value_tokens, value_fits, range_tokens, range_fits, in_parentheses, in_braces, with_commas, option_tokens, option_fits}

-- ---- sets (X.680, clause 50)

-- UnionMark and IntersectionMark: the mark before what is joined, which is a word or a sign
abbrev pub joined : List ℕ → List ℕ → Bool → Tokens
joined sign written is_word = (if is_word then word written else mark sign) ∷ []

-- Set is ElementSetSpec: ALL Exclusions, or Unions. Meet is Intersections, Part is IntersectionElements, with Exclusions where it has two elements (X.680, 50.1).
-- Element is Elements: SingleValue (51.2), ValueRange (51.4), SizeConstraint (51.5), PermittedAlphabet (51.7), or an ElementSetSpec in parentheses.
unfoldable mutual
  pub set_tokens : Set → Tokens
  set_tokens (all_except e) = word (codes "ALL") ∷ word (codes "EXCEPT") ∷ element_tokens e
  set_tokens (union_of m more) = meet_tokens m ++ meets_tokens more

  pub meets_tokens : Meets → Tokens
  meets_tokens no_meets = []
  meets_tokens (and_meet is_word m more) = joined (codes "|") (codes "UNION") is_word ++ meet_tokens m ++ meets_tokens more

  pub meet_tokens : Meet → Tokens
  meet_tokens (meet_of p more) = part_tokens p ++ parts_tokens more

  pub parts_tokens : Parts → Tokens
  parts_tokens no_parts = []
  parts_tokens (and_part is_word p more) = joined (codes "^") (codes "INTERSECTION") is_word ++ part_tokens p ++ parts_tokens more

  pub part_tokens : Part → Tokens
  part_tokens (part_of e) = element_tokens e
  part_tokens (part_but e but) = element_tokens e ++ word (codes "EXCEPT") ∷ element_tokens but

  pub element_tokens : Element → Tokens
  element_tokens (value_of v) = value_tokens v
  element_tokens (range_of r) = range_tokens r
  element_tokens (size_of s) = word (codes "SIZE") ∷ in_parentheses (set_tokens s)
  element_tokens (from_of s) = word (codes "FROM") ∷ in_parentheses (set_tokens s)
  element_tokens (inner_of s) = in_parentheses (set_tokens s)

unfoldable mutual
  pub set_fits : Set → Bool
  set_fits (all_except e) = element_fits e
  set_fits (union_of m more) = meet_fits m && meets_fits more

  pub meets_fits : Meets → Bool
  meets_fits no_meets = true
  meets_fits (and_meet is_word m more) = meet_fits m && meets_fits more

  pub meet_fits : Meet → Bool
  meet_fits (meet_of p more) = part_fits p && parts_fits more

  pub parts_fits : Parts → Bool
  parts_fits no_parts = true
  parts_fits (and_part is_word p more) = part_fits p && parts_fits more

  pub part_fits : Part → Bool
  part_fits (part_of e) = element_fits e
  part_fits (part_but e but) = element_fits e && element_fits but

  pub element_fits : Element → Bool
  element_fits (value_of v) = value_fits v
  element_fits (range_of r) = range_fits r
  element_fits (size_of s) = set_fits s
  element_fits (from_of s) = set_fits s
  element_fits (inner_of s) = set_fits s

-- ---- what stands in types

-- Class (X.680, 31.2.1)
abbrev pub class_tokens : TagClass → Tokens
class_tokens class.Universal = word (codes "UNIVERSAL") ∷ []
class_tokens class.Application = word (codes "APPLICATION") ∷ []
class_tokens class.Private = word (codes "PRIVATE") ∷ []

abbrev pub mode_tokens : TagMode → Tokens
mode_tokens mode.Implicit = word (codes "IMPLICIT") ∷ []
mode_tokens mode.Explicit = word (codes "EXPLICIT") ∷ []

-- Tag, and the word of TaggedType behind it (X.680, 31.2.1)
unfoldable pub tag_tokens : Tag → Tokens
tag_tokens t = mark (codes "[") ∷ (option_tokens class_tokens t.class ++ number t.number ∷ mark (codes "]") ∷ option_tokens mode_tokens t.mode)

abbrev pub tag_fits : Tag → Bool
tag_fits t = number_fits t.number

-- a number in parentheses
abbrev pub grouped_tokens : Bool × ℕ → Tokens
grouped_tokens n = in_parentheses (signed_tokens n.0 n.1)

-- NamedNumber (X.680, 19.1), with a number in this profile
unfoldable pub named_tokens : Named → Tokens
named_tokens n = word n.name ∷ grouped_tokens (n.negative, n.number)

abbrev pub named_fits : Named → Bool
named_fits n = is_identifier n.name && number_fits n.number

-- EnumerationItem (X.680, 20.1)
unfoldable pub item_tokens : Item → Tokens
item_tokens i = word i.name ∷ option_tokens grouped_tokens i.number

abbrev pub item_fits : Item → Bool
item_fits i = is_identifier i.name && option_fits (λ n. number_fits n.1) i.number

-- what stands behind the type in a ComponentType (X.680, 25.1)
unfoldable pub rest_tokens : Rest → Tokens
rest_tokens rest.Required = []
rest_tokens rest.Optional = word (codes "OPTIONAL") ∷ []
rest_tokens (rest.Default v) = word (codes "DEFAULT") ∷ value_tokens v

abbrev pub rest_fits : Rest → Bool
rest_fits rest.Required = true
rest_fits rest.Optional = true
rest_fits (rest.Default v) = value_fits v

-- a list has an item
abbrev pub is_some : {A : Type 0} → List A → Bool
is_some [] = false
is_some (x ∷ xs) = true

-- DefinedType: a type's name, or with that of its module an ExternalTypeReference (X.680, 14.1)
unfoldable pub ref_tokens : Option (List ℕ) → List ℕ → Tokens
ref_tokens None name = word name ∷ []
ref_tokens (Some from) name = word from ∷ mark (codes ".") ∷ word name ∷ []

-- ---- types

-- Type (X.680, 17.1), its constraints behind it (ConstrainedType, 49.1): BooleanType (18.1), NullType (24.1), IntegerType with NamedNumberList (19.1),
-- EnumeratedType with Enumerations (20.1), OctetStringType (23.1), BitStringType (22.1), IA5String (41.1), SequenceType with ComponentTypeLists (25.1),
-- SequenceOfType (26.1), also with a Constraint or a SizeConstraint before OF (TypeWithConstraint, 49.5), ChoiceType with AlternativeTypeLists (29.1), and
-- DefinedType. A constraint is a SubtypeConstraint (49.7), or ContentsConstraint (X.682, 11.1).
unfoldable mutual
  pub type_tokens : AsnType → Tokens
  type_tokens (type_of tag base cs) = option_tokens tag_tokens tag ++ base_tokens base ++ constraints_tokens cs

  pub base_tokens : AsnBase → Tokens
  base_tokens boolean = word (codes "BOOLEAN") ∷ []
  base_tokens null = word (codes "NULL") ∷ []
  base_tokens (integer named) = word (codes "INTEGER") ∷ option_tokens (λ ns. in_braces (with_commas named_tokens ns)) named
  base_tokens (enumerated items) = word (codes "ENUMERATED") ∷ in_braces (with_commas item_tokens items)
  base_tokens octet_string = word (codes "OCTET") ∷ word (codes "STRING") ∷ []
  base_tokens bit_string = word (codes "BIT") ∷ word (codes "STRING") ∷ []
  base_tokens ia5_string = word (codes "IA5String") ∷ []
  base_tokens (sequence cs) = word (codes "SEQUENCE") ∷ in_braces (components_tokens cs)
  base_tokens (sequence_of t) = word (codes "SEQUENCE") ∷ word (codes "OF") ∷ type_tokens t
  base_tokens (sequence_size c t) = word (codes "SEQUENCE") ∷ (constraint_tokens c ++ word (codes "OF") ∷ type_tokens t)
  base_tokens (choice more) = word (codes "CHOICE") ∷ in_braces (alternatives_tokens more)
  base_tokens (reference from name) = ref_tokens from name

  pub constraints_tokens : Constraints → Tokens
  constraints_tokens no_constraints = []
  constraints_tokens (and_constraint c cs) = constraint_tokens c ++ constraints_tokens cs

  pub constraint_tokens : Constraint → Tokens
  constraint_tokens (by_set s) = in_parentheses (set_tokens s)
  constraint_tokens (by_size s) = word (codes "SIZE") ∷ in_parentheses (set_tokens s)
  constraint_tokens (containing t) = in_parentheses (word (codes "CONTAINING") ∷ type_tokens t)

  -- components with commas between them
  pub components_tokens : Components → Tokens
  components_tokens no_components = []
  components_tokens (and_component name t r more) = word name ∷ (type_tokens t ++ rest_tokens r ++ more_components more)

  pub more_components : Components → Tokens
  more_components no_components = []
  more_components (and_component name t r more) = mark (codes ",") ∷ word name ∷ (type_tokens t ++ rest_tokens r ++ more_components more)

  pub alternatives_tokens : Alternatives → Tokens
  alternatives_tokens no_alternatives = []
  alternatives_tokens (and_alternative name t more) = word name ∷ (type_tokens t ++ more_alternatives more)

  pub more_alternatives : Alternatives → Tokens
  more_alternatives no_alternatives = []
  more_alternatives (and_alternative name t more) = mark (codes ",") ∷ word name ∷ (type_tokens t ++ more_alternatives more)

-- SEQUENCE OF, whose element has the constraints behind it (X.680, 49.2)
abbrev pub is_list : AsnBase → Bool
is_list boolean = false
is_list null = false
is_list (integer named) = false
is_list (enumerated items) = false
is_list octet_string = false
is_list bit_string = false
is_list ia5_string = false
is_list (sequence cs) = false
is_list (sequence_of t) = true
is_list (sequence_size c t) = true
is_list (choice more) = false
is_list (reference from name) = false

abbrev pub is_unconstrained : Constraints → Bool
is_unconstrained no_constraints = true
is_unconstrained (and_constraint c cs) = false

unfoldable mutual
  pub type_fits : AsnType → Bool
  type_fits (type_of tag base cs) = option_fits tag_fits tag && base_fits base && constraints_fit cs && (if is_list base then is_unconstrained cs else true)

  pub base_fits : AsnBase → Bool
  base_fits boolean = true
  base_fits null = true
  base_fits (integer named) = option_fits (λ ns. is_some ns && list_all named_fits ns) named
  base_fits (enumerated items) = is_some items && list_all item_fits items
  base_fits octet_string = true
  base_fits bit_string = true
  base_fits ia5_string = true
  base_fits (sequence cs) = components_fit cs
  base_fits (sequence_of t) = type_fits t
  base_fits (sequence_size c t) = inner_fits c && type_fits t
  base_fits (choice no_alternatives) = false
  base_fits (choice (and_alternative name t more)) = is_identifier name && type_fits t && alternatives_fit more
  base_fits (reference from name) = option_fits is_reference from && is_reference name

  -- behind a type SIZE has parentheses around it
  pub constraints_fit : Constraints → Bool
  constraints_fit no_constraints = true
  constraints_fit (and_constraint c cs) = outer_fits c && constraints_fit cs

  pub outer_fits : Constraint → Bool
  outer_fits (by_set s) = set_fits s
  outer_fits (by_size s) = false
  outer_fits (containing t) = type_fits t

  -- between SEQUENCE and OF it may stand without
  pub inner_fits : Constraint → Bool
  inner_fits (by_set s) = set_fits s
  inner_fits (by_size s) = set_fits s
  inner_fits (containing t) = type_fits t

  pub components_fit : Components → Bool
  components_fit no_components = true
  components_fit (and_component name t r more) = is_identifier name && type_fits t && rest_fits r && components_fit more

  pub alternatives_fit : Alternatives → Bool
  alternatives_fit no_alternatives = true
  alternatives_fit (and_alternative name t more) = is_identifier name && type_fits t && alternatives_fit more
