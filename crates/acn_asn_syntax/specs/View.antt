-- The trees of the program as plain data.
use Rattle.std.specs.Prelude.{Bool, List, [], ◌∷◌, Some, None, map}
use Rattle.acn_asn_syntax.specs.declared.sets.Element.{Element}
use Rattle.acn_asn_syntax.specs.declared.sets.Set.{Set}
use Rattle.acn_asn_syntax.specs.declared.sets.Meet.{Meet}
use Rattle.acn_asn_syntax.specs.declared.sets.Part.{Part}
use Rattle.acn_asn_syntax.specs.declared.sets.Element.TheOpen.{Element-F, Set-F, Meet-F, Part-F}
use Rattle.acn_asn_syntax.specs.declared.sets.Element.TheFolds.{fold-Element, fold-Set, fold-Meet, fold-Part}
use Rattle.acn_asn_syntax.specs.declared.types.AsnType.{AsnType}
use Rattle.acn_asn_syntax.specs.declared.types.AsnBase.{AsnBase}
use Rattle.acn_asn_syntax.specs.declared.types.Constraint.{Constraint}
use Rattle.acn_asn_syntax.specs.declared.types.Component.{Component}
use Rattle.acn_asn_syntax.specs.declared.types.Alternative.{Alternative}
use Rattle.acn_asn_syntax.specs.declared.types.AsnBase.TheOpen.{AsnBase-F, AsnType-F, Component-F, Alternative-F, Constraint-F}
use Rattle.acn_asn_syntax.specs.declared.types.AsnBase.TheFolds.{fold-AsnType, fold-AsnBase, fold-Constraint, fold-Component, fold-Alternative}
use Rattle.acn_asn_syntax.specs.declared.modules.Assign.{Assign}
use Rattle.acn_asn_syntax.specs.declared.modules.Assign.TheVariants as assign
use Rattle.acn_asn_syntax.specs.declared.modules.AsnModule.{AsnModule}
use Rattle.acn_asn_syntax.specs.Mirror as plain

-- ---- sets

abbrev pub meets_of : List (Bool × plain.Meet) → plain.Meets
meets_of [] = plain.no_meets
meets_of (m ∷ ms) = plain.and_meet m.0 m.1 (meets_of ms)

abbrev pub parts_of : List (Bool × plain.Part) → plain.Parts
parts_of [] = plain.no_parts
parts_of (p ∷ ps) = plain.and_part p.0 p.1 (parts_of ps)

abbrev pub element_step : Element-F plain.Element plain.Set plain.Meet plain.Part → plain.Element
element_step (Element-F.Value v) = plain.value_of v
element_step (Element-F.Range r) = plain.range_of r
element_step (Element-F.SizeOf s) = plain.size_of s
element_step (Element-F.From s) = plain.from_of s
element_step (Element-F.Inner s) = plain.inner_of s

abbrev pub set_step : Set-F plain.Element plain.Set plain.Meet plain.Part → plain.Set
set_step (Set-F.AllExcept e) = plain.all_except e
set_step (Set-F.Union m more) = plain.union_of m (meets_of more)

abbrev pub meet_step : Meet-F plain.Element plain.Set plain.Meet plain.Part → plain.Meet
meet_step m = plain.meet_of m.first (parts_of m.more)

abbrev pub part_step : Part-F plain.Element plain.Set plain.Meet plain.Part → plain.Part
part_step p = elim p.but [ None ↦ plain.part_of p.element | Some e ↦ plain.part_but p.element e ]

unfoldable pub element_view : Element → plain.Element
element_view = fold-Element plain.Element plain.Set plain.Meet plain.Part element_step set_step meet_step part_step

unfoldable pub set_view : Set → plain.Set
set_view = fold-Set plain.Element plain.Set plain.Meet plain.Part element_step set_step meet_step part_step

unfoldable pub meet_view : Meet → plain.Meet
meet_view = fold-Meet plain.Element plain.Set plain.Meet plain.Part element_step set_step meet_step part_step

unfoldable pub part_view : Part → plain.Part
part_view = fold-Part plain.Element plain.Set plain.Meet plain.Part element_step set_step meet_step part_step

-- what stands behind its mark, a word or a sign
abbrev pub seen_meet : Bool × Meet → Bool × plain.Meet
seen_meet p = (p.0, meet_view p.1)

abbrev pub seen_part : Bool × Part → Bool × plain.Part
seen_part p = (p.0, part_view p.1)

-- ---- types

abbrev pub components_of : List plain.Component → plain.Components
components_of [] = plain.no_components
components_of (c ∷ cs) = plain.and_component c.name c.of c.rest (components_of cs)

abbrev pub alternatives_of : List plain.Alternative → plain.Alternatives
alternatives_of [] = plain.no_alternatives
alternatives_of (c ∷ cs) = plain.and_alternative c.name c.of (alternatives_of cs)

abbrev pub constraints_of : List plain.Constraint → plain.Constraints
constraints_of [] = plain.no_constraints
constraints_of (c ∷ cs) = plain.and_constraint c (constraints_of cs)

abbrev pub constraint_step : Constraint-F plain.AsnBase plain.Constraint plain.Alternative plain.AsnType plain.Component → plain.Constraint
constraint_step (Constraint-F.Set s) = plain.by_set (set_view s)
constraint_step (Constraint-F.Size s) = plain.by_size (set_view s)
constraint_step (Constraint-F.Containing t) = plain.containing t

abbrev pub base_step : AsnBase-F plain.AsnBase plain.Constraint plain.Alternative plain.AsnType plain.Component → plain.AsnBase
base_step AsnBase-F.Boolean = plain.boolean
base_step AsnBase-F.Null = plain.null
base_step (AsnBase-F.Integer ns) = plain.integer ns
base_step (AsnBase-F.Enumerated items) = plain.enumerated items
base_step AsnBase-F.OctetString = plain.octet_string
base_step AsnBase-F.BitString = plain.bit_string
base_step AsnBase-F.Ia5String = plain.ia5_string
base_step (AsnBase-F.Sequence cs) = plain.sequence (components_of cs)
base_step (AsnBase-F.SequenceOf None t) = plain.sequence_of t
base_step (AsnBase-F.SequenceOf (Some c) t) = plain.sequence_size c t
base_step (AsnBase-F.Choice cs) = plain.choice (alternatives_of cs)
base_step (AsnBase-F.Ref from name) = plain.reference from name

abbrev pub type_step : AsnType-F plain.AsnBase plain.Constraint plain.Alternative plain.AsnType plain.Component → plain.AsnType
type_step t = plain.type_of t.tag t.base (constraints_of t.constraints)

abbrev pub component_step : Component-F plain.AsnBase plain.Constraint plain.Alternative plain.AsnType plain.Component → plain.Component
component_step c = record { name = c.name; of = c.of; rest = c.rest }

abbrev pub alternative_step : Alternative-F plain.AsnBase plain.Constraint plain.Alternative plain.AsnType plain.Component → plain.Alternative
alternative_step c = record { name = c.name; of = c.of }

unfoldable pub base_view : AsnBase → plain.AsnBase
base_view = fold-AsnBase plain.AsnBase plain.Constraint plain.Alternative plain.AsnType plain.Component base_step constraint_step alternative_step type_step component_step

unfoldable pub constraint_view : Constraint → plain.Constraint
constraint_view = fold-Constraint plain.AsnBase plain.Constraint plain.Alternative plain.AsnType plain.Component base_step constraint_step alternative_step type_step component_step

unfoldable pub type_view : AsnType → plain.AsnType
type_view = fold-AsnType plain.AsnBase plain.Constraint plain.Alternative plain.AsnType plain.Component base_step constraint_step alternative_step type_step component_step

unfoldable pub component_view : Component → plain.Component
component_view = fold-Component plain.AsnBase plain.Constraint plain.Alternative plain.AsnType plain.Component base_step constraint_step alternative_step type_step component_step

unfoldable pub alternative_view : Alternative → plain.Alternative
alternative_view = fold-Alternative plain.AsnBase plain.Constraint plain.Alternative plain.AsnType plain.Component base_step constraint_step alternative_step type_step component_step

-- ---- modules

abbrev pub assign_view : Assign → plain.Assign
assign_view (assign.TypeIs n t) = plain.TypeIs n (type_view t)
assign_view (assign.ValueIs n t v) = plain.ValueIs n (type_view t) v

abbrev pub module_view : AsnModule → plain.AsnModule
module_view m = record { name = m.name; oid = m.oid; tags = m.tags; exports = m.exports; imports = m.imports; items = map assign_view m.items }
