-- One level of what a set, a constraint, a type, a component and an alternative stand for.
use Rattle.std.proofs.Common.{◌≡◌, Bool, List, Option, Some, None, sym, ap, ◌∙◌, ℕ, [], ◌∷◌, refl}
use Rattle.std.specs.Prelude.{map}
use Rattle.acn_asn_syntax.specs.declared.values.AsnValue.{AsnValue}
use Rattle.acn_asn_syntax.specs.declared.sets.AsnRange.{AsnRange}
use Rattle.acn_asn_syntax.specs.declared.sets.Element.{Element}
use Rattle.acn_asn_syntax.specs.declared.sets.Element.TheVariants as element
use Rattle.acn_asn_syntax.specs.declared.sets.Set.{Set}
use Rattle.acn_asn_syntax.specs.declared.sets.Set.TheVariants as set
use Rattle.acn_asn_syntax.specs.declared.sets.Meet.{Meet}
use Rattle.acn_asn_syntax.specs.declared.sets.Part.{Part}
use Rattle.acn_asn_syntax.specs.declared.sets.Element.TheOpen.{Element-F, Set-F}
use Rattle.acn_asn_syntax.specs.declared.sets.Element.TheViews.{roll-Meet, roll-Part, out-Meet, out-Part, roll-out-Meet, roll-out-Part}
use Rattle.acn_asn_syntax.specs.declared.sets.Element.TheFolds.{fold-roll-Element, fold-roll-Set, fold-roll-Meet, fold-roll-Part}
use Rattle.acn_asn_syntax.specs.Mirror as plain
use Rattle.acn_asn_syntax.specs.View.{element_view, set_view, meet_view, part_view, element_step, set_step, meet_step, part_step, meets_of, parts_of, type_view, base_view, constraint_view, component_view, alternative_view, base_step, constraint_step, alternative_step, type_step, component_step, components_of, alternatives_of, constraints_of, seen_meet, seen_part}
use Rattle.acn_asn_syntax.specs.declared.types.Tag.{Tag}
use Rattle.acn_asn_syntax.specs.declared.types.Named.{Named}
use Rattle.acn_asn_syntax.specs.declared.types.Item.{Item}
use Rattle.acn_asn_syntax.specs.declared.types.Rest.{Rest}
use Rattle.acn_asn_syntax.specs.declared.types.AsnType.{AsnType}
use Rattle.acn_asn_syntax.specs.declared.types.AsnBase.{AsnBase}
use Rattle.acn_asn_syntax.specs.declared.types.AsnBase.TheVariants as base
use Rattle.acn_asn_syntax.specs.declared.types.Constraint.{Constraint}
use Rattle.acn_asn_syntax.specs.declared.types.Constraint.TheVariants as constraint
use Rattle.acn_asn_syntax.specs.declared.types.Component.{Component}
use Rattle.acn_asn_syntax.specs.declared.types.Alternative.{Alternative}
use Rattle.acn_asn_syntax.specs.declared.types.AsnBase.TheOpen.{AsnBase-F, Constraint-F}
use Rattle.acn_asn_syntax.specs.declared.types.AsnBase.TheViews.{roll-AsnType, roll-Component, roll-Alternative, out-AsnType, out-Component, out-Alternative, roll-out-AsnType, roll-out-Component, roll-out-Alternative}
use Rattle.acn_asn_syntax.specs.declared.types.AsnBase.TheFolds.{fold-roll-AsnBase, fold-roll-AsnType, fold-roll-Constraint, fold-roll-Component, fold-roll-Alternative}

-- ---- sets

pub view_Value : (v : AsnValue) → element_view (element.Value v) ≡ plain.value_of v
unfolding element_view
view_Value v = ap element_view (sym (element.rolls-Value v)) ∙ fold-roll-Element _ _ _ _ element_step set_step meet_step part_step (Element-F.Value v)

pub view_Range : (r : AsnRange) → element_view (element.Range r) ≡ plain.range_of r
unfolding element_view
view_Range r = ap element_view (sym (element.rolls-Range r)) ∙ fold-roll-Element _ _ _ _ element_step set_step meet_step part_step (Element-F.Range r)

pub view_Sized : (s : Set) → element_view (element.SizeOf s) ≡ plain.size_of (set_view s)
unfolding element_view set_view
view_Sized s = ap element_view (sym (element.rolls-SizeOf s)) ∙ fold-roll-Element _ _ _ _ element_step set_step meet_step part_step (Element-F.SizeOf s)

pub view_Letters : (s : Set) → element_view (element.From s) ≡ plain.from_of (set_view s)
unfolding element_view set_view
view_Letters s = ap element_view (sym (element.rolls-From s)) ∙ fold-roll-Element _ _ _ _ element_step set_step meet_step part_step (Element-F.From s)

pub view_Inner : (s : Set) → element_view (element.Inner s) ≡ plain.inner_of (set_view s)
unfolding element_view set_view
view_Inner s = ap element_view (sym (element.rolls-Inner s)) ∙ fold-roll-Element _ _ _ _ element_step set_step meet_step part_step (Element-F.Inner s)

pub view_AllExcept : (e : Element) → set_view (set.AllExcept e) ≡ plain.all_except (element_view e)
unfolding element_view set_view
view_AllExcept e = ap set_view (sym (set.rolls-AllExcept e)) ∙ fold-roll-Set _ _ _ _ element_step set_step meet_step part_step (Set-F.AllExcept e)

pub view_Union : (m : Meet) (more : List (Bool × Meet)) → set_view (set.Union m more) ≡ plain.union_of (meet_view m) (meets_of (map seen_meet more))
unfolding set_view meet_view
view_Union m more = ap set_view (sym (set.rolls-Union m more)) ∙ fold-roll-Set _ _ _ _ element_step set_step meet_step part_step (Set-F.Union m more)

pub view_meet : (first : Part) (more : List (Bool × Part)) → meet_view (roll-Meet (record { first = first; more = more })) ≡ plain.meet_of (part_view first) (parts_of (map seen_part more))
unfolding meet_view part_view
view_meet first more = fold-roll-Meet _ _ _ _ element_step set_step meet_step part_step (record { first = first; more = more })

pub view_part : (e : Element) → part_view (roll-Part (record { element = e; but = None })) ≡ plain.part_of (element_view e)
unfolding part_view element_view
view_part e = fold-roll-Part _ _ _ _ element_step set_step meet_step part_step (record { element = e; but = None })

pub view_but : (e f : Element) → part_view (roll-Part (record { element = e; but = Some f })) ≡ plain.part_but (element_view e) (element_view f)
unfolding part_view element_view
view_but e f = fold-roll-Part _ _ _ _ element_step set_step meet_step part_step (record { element = e; but = Some f })

pub open_meet : (m : Meet) → meet_view m ≡ plain.meet_of (part_view (out-Meet m).first) (parts_of (map seen_part (out-Meet m).more))
unfolding meet_view part_view
open_meet m = ap meet_view (sym (roll-out-Meet m)) ∙ fold-roll-Meet _ _ _ _ element_step set_step meet_step part_step (out-Meet m)

abbrev pub parted : plain.Element → Option plain.Element → plain.Part
parted e None = plain.part_of e
parted e (Some but) = plain.part_but e but

abbrev pub seen_but : Option Element → Option plain.Element
seen_but None = None
seen_but (Some e) = Some (element_view e)

open_but : (e : Element) (but : Option Element) → part_view (roll-Part (record { element = e; but = but })) ≡ parted (element_view e) (seen_but but)
unfolding part_view element_view
open_but e None = fold-roll-Part _ _ _ _ element_step set_step meet_step part_step (record { element = e; but = None })
open_but e (Some f) = fold-roll-Part _ _ _ _ element_step set_step meet_step part_step (record { element = e; but = Some f })

pub open_part : (p : Part) → part_view p ≡ parted (element_view (out-Part p).element) (seen_but (out-Part p).but)
open_part p = ap part_view (sym (roll-out-Part p)) ∙ open_but (out-Part p).element (out-Part p).but

pub part_with : (p : Part) (but : Element) → (out-Part p).but ≡ Some but → part_view p ≡ plain.part_but (element_view (out-Part p).element) (element_view but)
part_with p but e = open_part p ∙ ap (λ (b : Option Element). parted (element_view (out-Part p).element) (seen_but b)) e

pub ruleset set_views = (view_Value, view_Range, view_Sized, view_Letters, view_Inner, view_AllExcept, view_Union, open_meet, open_part)

-- ---- types and constraints

pub view_Boolean : base_view base.Boolean ≡ plain.boolean
unfolding base_view type_view constraint_view component_view alternative_view
view_Boolean = ap base_view (sym base.rolls-Boolean) ∙ fold-roll-AsnBase _ _ _ _ _ base_step constraint_step alternative_step type_step component_step AsnBase-F.Boolean

pub view_Null : base_view base.Null ≡ plain.null
unfolding base_view type_view constraint_view component_view alternative_view
view_Null = ap base_view (sym base.rolls-Null) ∙ fold-roll-AsnBase _ _ _ _ _ base_step constraint_step alternative_step type_step component_step AsnBase-F.Null

pub view_OctetString : base_view base.OctetString ≡ plain.octet_string
unfolding base_view type_view constraint_view component_view alternative_view
view_OctetString = ap base_view (sym base.rolls-OctetString) ∙ fold-roll-AsnBase _ _ _ _ _ base_step constraint_step alternative_step type_step component_step AsnBase-F.OctetString

pub view_BitString : base_view base.BitString ≡ plain.bit_string
unfolding base_view type_view constraint_view component_view alternative_view
view_BitString = ap base_view (sym base.rolls-BitString) ∙ fold-roll-AsnBase _ _ _ _ _ base_step constraint_step alternative_step type_step component_step AsnBase-F.BitString

pub view_Ia5String : base_view base.Ia5String ≡ plain.ia5_string
unfolding base_view type_view constraint_view component_view alternative_view
view_Ia5String = ap base_view (sym base.rolls-Ia5String) ∙ fold-roll-AsnBase _ _ _ _ _ base_step constraint_step alternative_step type_step component_step AsnBase-F.Ia5String

pub view_Integer : (ns : Option (List Named)) → base_view (base.Integer ns) ≡ plain.integer ns
unfolding base_view type_view constraint_view component_view alternative_view
view_Integer ns = ap base_view (sym (base.rolls-Integer ns)) ∙ fold-roll-AsnBase _ _ _ _ _ base_step constraint_step alternative_step type_step component_step (AsnBase-F.Integer ns)

pub view_Enumerated : (items : List Item) → base_view (base.Enumerated items) ≡ plain.enumerated items
unfolding base_view type_view constraint_view component_view alternative_view
view_Enumerated items = ap base_view (sym (base.rolls-Enumerated items)) ∙ fold-roll-AsnBase _ _ _ _ _ base_step constraint_step alternative_step type_step component_step (AsnBase-F.Enumerated items)

pub view_Ref : (from : Option (List ℕ)) (name : List ℕ) → base_view (base.Ref from name) ≡ plain.reference from name
unfolding base_view type_view constraint_view component_view alternative_view
view_Ref from name = ap base_view (sym (base.rolls-Ref from name)) ∙ fold-roll-AsnBase _ _ _ _ _ base_step constraint_step alternative_step type_step component_step (AsnBase-F.Ref from name)

pub view_Sequence : (cs : List Component) → base_view (base.Sequence cs) ≡ plain.sequence (components_of (map component_view cs))
unfolding base_view type_view constraint_view component_view alternative_view
view_Sequence cs = ap base_view (sym (base.rolls-Sequence cs)) ∙ fold-roll-AsnBase _ _ _ _ _ base_step constraint_step alternative_step type_step component_step (AsnBase-F.Sequence cs)

pub view_Choice : (more : List Alternative) → base_view (base.Choice more) ≡ plain.choice (alternatives_of (map alternative_view more))
unfolding base_view type_view constraint_view component_view alternative_view
view_Choice more = ap base_view (sym (base.rolls-Choice more)) ∙ fold-roll-AsnBase _ _ _ _ _ base_step constraint_step alternative_step type_step component_step (AsnBase-F.Choice more)

pub view_Of : (t : AsnType) → base_view (base.SequenceOf None t) ≡ plain.sequence_of (type_view t)
unfolding base_view type_view constraint_view component_view alternative_view
view_Of t = ap base_view (sym (base.rolls-SequenceOf None t)) ∙ fold-roll-AsnBase _ _ _ _ _ base_step constraint_step alternative_step type_step component_step (AsnBase-F.SequenceOf None t)

pub view_SizeOf : (c : Constraint) (t : AsnType) → base_view (base.SequenceOf (Some c) t) ≡ plain.sequence_size (constraint_view c) (type_view t)
unfolding base_view type_view constraint_view component_view alternative_view
view_SizeOf c t = ap base_view (sym (base.rolls-SequenceOf (Some c) t)) ∙ fold-roll-AsnBase _ _ _ _ _ base_step constraint_step alternative_step type_step component_step (AsnBase-F.SequenceOf (Some c) t)

pub view_type : (tag : Option Tag) (b : AsnBase) (cs : List Constraint) → type_view (roll-AsnType (record { tag = tag; base = b; constraints = cs })) ≡ plain.type_of tag (base_view b) (constraints_of (map constraint_view cs))
unfolding type_view base_view constraint_view
view_type tag b cs = fold-roll-AsnType _ _ _ _ _ base_step constraint_step alternative_step type_step component_step (record { tag = tag; base = b; constraints = cs })

pub view_Set : (s : Set) → constraint_view (constraint.Set s) ≡ plain.by_set (set_view s)
unfolding constraint_view
view_Set s = ap constraint_view (sym (constraint.rolls-Set s)) ∙ fold-roll-Constraint _ _ _ _ _ base_step constraint_step alternative_step type_step component_step (Constraint-F.Set s)

pub view_Size : (s : Set) → constraint_view (constraint.Size s) ≡ plain.by_size (set_view s)
unfolding constraint_view
view_Size s = ap constraint_view (sym (constraint.rolls-Size s)) ∙ fold-roll-Constraint _ _ _ _ _ base_step constraint_step alternative_step type_step component_step (Constraint-F.Size s)

pub view_Containing : (t : AsnType) → constraint_view (constraint.Containing t) ≡ plain.containing (type_view t)
unfolding constraint_view type_view
view_Containing t = ap constraint_view (sym (constraint.rolls-Containing t)) ∙ fold-roll-Constraint _ _ _ _ _ base_step constraint_step alternative_step type_step component_step (Constraint-F.Containing t)

pub view_component : (name : List ℕ) (t : AsnType) (r : Rest) → component_view (roll-Component (record { name = name; of = t; rest = r })) ≡ record { name = name; of = type_view t; rest = r }
unfolding component_view type_view
view_component name t r = fold-roll-Component _ _ _ _ _ base_step constraint_step alternative_step type_step component_step (record { name = name; of = t; rest = r })

pub view_alternative : (name : List ℕ) (t : AsnType) → alternative_view (roll-Alternative (record { name = name; of = t })) ≡ record { name = name; of = type_view t }
unfolding alternative_view type_view
view_alternative name t = fold-roll-Alternative _ _ _ _ _ base_step constraint_step alternative_step type_step component_step (record { name = name; of = t })

-- ---- opened

pub open_type : (t : AsnType) → type_view t ≡ plain.type_of (out-AsnType t).tag (base_view (out-AsnType t).base) (constraints_of (map constraint_view (out-AsnType t).constraints))
unfolding type_view base_view constraint_view
open_type t = ap type_view (sym (roll-out-AsnType t)) ∙ fold-roll-AsnType _ _ _ _ _ base_step constraint_step alternative_step type_step component_step (out-AsnType t)

pub open_component : (t : Component) → component_view t ≡ record { name = (out-Component t).name; of = type_view (out-Component t).of; rest = (out-Component t).rest }
unfolding component_view type_view
open_component t = ap component_view (sym (roll-out-Component t)) ∙ fold-roll-Component _ _ _ _ _ base_step constraint_step alternative_step type_step component_step (out-Component t)

pub open_alternative : (t : Alternative) → alternative_view t ≡ record { name = (out-Alternative t).name; of = type_view (out-Alternative t).of }
unfolding alternative_view type_view
open_alternative t = ap alternative_view (sym (roll-out-Alternative t)) ∙ fold-roll-Alternative _ _ _ _ _ base_step constraint_step alternative_step type_step component_step (out-Alternative t)

pub ruleset type_views = (view_Boolean, view_Null, view_OctetString, view_BitString, view_Ia5String, view_Integer, view_Enumerated, view_Ref, view_Sequence, view_Choice, view_Of, view_SizeOf)

-- the lists of some constraints, components and alternatives are those
pub constraints_back : (cs : List plain.Constraint) → plain.constraint_list (constraints_of cs) ≡ cs
constraints_back [] = refl
constraints_back (c ∷ cs) = ap (λ xs. c ∷ xs) (constraints_back cs)

pub components_back : (cs : List plain.Component) → plain.component_list (components_of cs) ≡ cs
components_back [] = refl
components_back (c ∷ cs) = ap (λ xs. c ∷ xs) (components_back cs)

pub alternatives_back : (cs : List plain.Alternative) → plain.alternative_list (alternatives_of cs) ≡ cs
alternatives_back [] = refl
alternatives_back (c ∷ cs) = ap (λ xs. c ∷ xs) (alternatives_back cs)

pub ruleset part_views = (view_Set, view_Size, view_Containing, open_component, open_alternative)
