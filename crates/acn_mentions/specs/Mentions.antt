-- Where the text of a type, an assignment or an ACN entry refers to something by name, in the order of the text.
use Rattle.std.specs.Prelude.{ℕ, List, [], ◌∷◌, ◌++◌, Option, Some, None, flat_map}
use Rattle.acn_num.specs.Names.{Name}
use Rattle.acn_asn_syntax.specs.declared.values.AsnValue.{AsnValue}
use Rattle.acn_asn_syntax.specs.declared.values.AsnValue.TheVariants as value
use Rattle.acn_asn_syntax.specs.declared.types.Rest.{Rest}
use Rattle.acn_asn_syntax.specs.declared.types.Rest.TheVariants as rest
use Rattle.acn_asn_syntax.specs.Mirror.{Set, all_except, union_of, Meets, no_meets, and_meet, Meet, meet_of, Parts, no_parts, and_part, Part, part_of, part_but, Element, value_of, range_of, size_of, from_of, inner_of}
use Rattle.acn_asn_syntax.specs.Mirror.{AsnType, type_of, AsnBase, sequence, sequence_of, sequence_size, choice, reference, Constraints, no_constraints, and_constraint, Constraint, by_set, by_size, containing, Components, no_components, and_component, Alternatives, no_alternatives, and_alternative, Assign, TypeIs, ValueIs}
use Rattle.acn_acn_syntax.specs.Mirror.{Field, plain, inserted, number, Braces, no_braces, braces, Fields, no_fields, and_field, Entry}
use Rattle.acn_acn_syntax.specs.declared.modules.Attr.{Attr}
use Rattle.acn_acn_syntax.specs.declared.modules.Attr.TheVariants as attr
use Rattle.acn_acn_syntax.specs.declared.modules.FieldKind.{FieldKind}
use Rattle.acn_acn_syntax.specs.declared.modules.FieldKind.TheVariants as field_kind
use Rattle.acn_acn_syntax.specs.declared.modules.ParamKind.TheVariants as param_kind
use Rattle.acn_acn_syntax.specs.declared.modules.Param.{Param}
use Rattle.acn_mentions.specs.declared.mention.Role.{Role}
use Rattle.acn_mentions.specs.declared.mention.Role.TheVariants as role

-- Where something is mentioned. A value in a constraint speaks of the type that the constraint is of, which is none
-- between SEQUENCE and OF; it stands for one of the type's values, a size, or characters. The others stand behind
-- DEFAULT of a component of a type, and behind `::=`.
pub data Mention : Type 0 where
  to_type : Option Name → Name → Mention
  in_constraint : Option AsnType → Role → Name → Mention
  in_default : AsnType → Name → Mention
  in_assignment : Name → Mention

-- ---- identifiers in a set

-- the identifier that a value is, if it is one
abbrev pub of_value : Option AsnType → Role → AsnValue → List Mention
of_value g r (value.Ref name) = in_constraint g r name ∷ []
of_value g r _ = []

abbrev pub of_end : Option AsnType → Role → Option AsnValue → List Mention
of_end g r None = []
of_end g r (Some v) = of_value g r v

-- the innermost SIZE or FROM around a value says what it stands for
unfoldable mutual
  pub in_set : Option AsnType → Role → Set → List Mention
  in_set g r (all_except e) = in_element g r e
  in_set g r (union_of m more) = in_meet g r m ++ in_meets g r more

  pub in_meets : Option AsnType → Role → Meets → List Mention
  in_meets g r no_meets = []
  in_meets g r (and_meet b m more) = in_meet g r m ++ in_meets g r more

  pub in_meet : Option AsnType → Role → Meet → List Mention
  in_meet g r (meet_of p more) = in_part g r p ++ in_parts g r more

  pub in_parts : Option AsnType → Role → Parts → List Mention
  in_parts g r no_parts = []
  in_parts g r (and_part b p more) = in_part g r p ++ in_parts g r more

  pub in_part : Option AsnType → Role → Part → List Mention
  in_part g r (part_of e) = in_element g r e
  in_part g r (part_but e but) = in_element g r e ++ in_element g r but

  pub in_element : Option AsnType → Role → Element → List Mention
  in_element g r (value_of v) = of_value g r v
  in_element g r (range_of ends) = of_end g r ends.low ++ of_end g r ends.high
  in_element g r (size_of s) = in_set g role.Size s
  in_element g r (from_of s) = in_set g role.Letters s
  in_element g r (inner_of s) = in_set g r s

-- ---- references in a type

abbrev pub default_mentions : AsnType → Rest → List Mention
default_mentions t (rest.Default (value.Ref name)) = in_default t name ∷ []
default_mentions t _ = []

unfoldable mutual
  pub mentions : AsnType → List Mention
  mentions (type_of tag b cs) = base_mentions b ++ all_constraint_mentions (Some (type_of tag b cs)) cs

  pub base_mentions : AsnBase → List Mention
  base_mentions (reference from name) = to_type from name ∷ []
  base_mentions (sequence cs) = component_mentions cs
  base_mentions (sequence_of t) = mentions t
  base_mentions (sequence_size c t) = constraint_mentions None c ++ mentions t
  base_mentions (choice more) = alternative_mentions more
  base_mentions _ = []

  pub component_mentions : Components → List Mention
  component_mentions no_components = []
  component_mentions (and_component name t r more) = (mentions t ++ default_mentions t r) ++ component_mentions more

  pub alternative_mentions : Alternatives → List Mention
  alternative_mentions no_alternatives = []
  alternative_mentions (and_alternative name t more) = mentions t ++ alternative_mentions more

  pub all_constraint_mentions : Option AsnType → Constraints → List Mention
  all_constraint_mentions g no_constraints = []
  all_constraint_mentions g (and_constraint c more) = constraint_mentions g c ++ all_constraint_mentions g more

  pub constraint_mentions : Option AsnType → Constraint → List Mention
  constraint_mentions g (by_set s) = in_set g role.Element s
  constraint_mentions g (by_size s) = in_set g role.Size s
  constraint_mentions g (containing t) = mentions t

-- what is mentioned between SEQUENCE and OF
abbrev pub between_mentions : Option Constraint → List Mention
between_mentions None = []
between_mentions (Some c) = constraint_mentions None c

abbrev pub value_mentions : AsnValue → List Mention
value_mentions (value.Ref name) = in_assignment name ∷ []
value_mentions _ = []

unfoldable pub assign_mentions : Assign → List Mention
assign_mentions (TypeIs name t) = mentions t
assign_mentions (ValueIs name t v) = mentions t ++ value_mentions v

-- ---- references in an ACN entry

-- the type of a parameter, the type of an inserted field, a mapping table
pub data AcnMention : Type 0 where
  of_parameter : Name → AcnMention
  of_field : Name → AcnMention
  to_table : Name → AcnMention

abbrev pub parameter_mentions : Param → List AcnMention
parameter_mentions p = elim p.kind [ param_kind.Integer ↦ [] | param_kind.Boolean ↦ [] | param_kind.Ref name ↦ of_parameter name ∷ [] ]

abbrev pub kind_mentions : FieldKind → List AcnMention
kind_mentions (field_kind.Ref name) = of_field name ∷ []
kind_mentions _ = []

abbrev pub attribute_mentions : Attr → List AcnMention
attribute_mentions (attr.MappingFunction name) = to_table name ∷ []
attribute_mentions _ = []

unfoldable mutual
  pub field_mentions : Field → List AcnMention
  field_mentions (plain name arguments attributes bs) = flat_map attribute_mentions attributes ++ braces_mentions bs
  field_mentions (inserted name kind attributes) = kind_mentions kind ++ flat_map attribute_mentions attributes
  field_mentions (number name n) = []

  pub braces_mentions : Braces → List AcnMention
  braces_mentions no_braces = []
  braces_mentions (braces fs) = fields_mentions fs

  pub fields_mentions : Fields → List AcnMention
  fields_mentions no_fields = []
  fields_mentions (and_field f fs) = field_mentions f ++ fields_mentions fs

unfoldable pub entry_mentions : Entry → List AcnMention
entry_mentions e = flat_map parameter_mentions e.parameters ++ (flat_map attribute_mentions e.attributes ++ braces_mentions e.fields)
