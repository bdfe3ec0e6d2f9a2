-- What is given twice in a type and in a component, part by part.
use Rattle.std.proofs.Common.{◌≡◌, List, [], ◌∷◌, ◌++◌, Option, Some, None, sym, ap}
use Rattle.std.specs.Prelude.{map, option_map}
use Rattle.acn_asn_syntax.specs.declared.types.AsnType.{AsnType}
use Rattle.acn_asn_syntax.specs.declared.types.Component.{Component}
use Rattle.acn_asn_syntax.specs.declared.types.Alternative.{Alternative}
use Rattle.acn_asn_syntax.specs.declared.types.Constraint.{Constraint}
use Rattle.acn_asn_syntax.specs.declared.types.AsnBase.TheVariants as base
use Rattle.acn_asn_syntax.specs.declared.types.AsnBase.TheViews.{out-AsnType, out-Component, out-Alternative}
use Rattle.acn_asn_syntax.specs.Mirror as plain
use Rattle.acn_asn_syntax.specs.View.{type_view, base_view, constraint_view, component_view, alternative_view, constraints_of}
use Rattle.acn_num.specs.Names.{Name}
use Rattle.acn_world.specs.Repeated.{again, twice, twice_base, twice_constraints, twice_between}
use Rattle.acn_asn_syntax.proofs.Views.{open_type, open_component, open_alternative, view_Of, view_SizeOf}

pub opened_type : (t : AsnType) → twice (type_view t) ≡ twice_base (base_view (out-AsnType t).base) ++ twice_constraints (constraints_of (map constraint_view (out-AsnType t).constraints))
unfolding twice
opened_type t = ap twice (open_type t)

pub opened_list : (c : Option Constraint) (t : AsnType) → twice_base (base_view (base.SequenceOf c t)) ≡ twice_between (option_map constraint_view c) ++ twice (type_view t)
unfolding twice_base
opened_list None t = ap twice_base (view_Of t)
opened_list (Some c) t = ap twice_base (view_SizeOf c t)

abbrev of_component : List Name → plain.Component → List Name
of_component seen c = again c.name seen ++ twice c.of

pub opened_component : (seen : List Name) (c : Component) → again (component_view c).name seen ++ twice (component_view c).of ≡ again (out-Component c).name seen ++ twice (type_view (out-Component c).of)
opened_component seen c = ap (of_component seen) (open_component c)

abbrev seen_component : List Name → plain.Component → List Name
seen_component seen c = seen ++ c.name ∷ []

pub component_seen : (seen : List Name) (c : Component) → seen ++ (out-Component c).name ∷ [] ≡ seen ++ (component_view c).name ∷ []
component_seen seen c = sym (ap (seen_component seen) (open_component c))

abbrev of_alternative : List Name → plain.Alternative → List Name
of_alternative seen c = again c.name seen ++ twice c.of

pub opened_alternative : (seen : List Name) (c : Alternative) → again (alternative_view c).name seen ++ twice (alternative_view c).of ≡ again (out-Alternative c).name seen ++ twice (type_view (out-Alternative c).of)
opened_alternative seen c = ap (of_alternative seen) (open_alternative c)

abbrev seen_alternative : List Name → plain.Alternative → List Name
seen_alternative seen c = seen ++ c.name ∷ []

pub alternative_seen : (seen : List Name) (c : Alternative) → seen ++ (out-Alternative c).name ∷ [] ≡ seen ++ (alternative_view c).name ∷ []
alternative_seen seen c = sym (ap (seen_alternative seen) (open_alternative c))
