-- What is mentioned in a type and in a component, part by part.
use Rattle.std.proofs.Common.{◌≡◌, List, ◌++◌, Option, Some, None, refl, sym, ap, subst}
use Rattle.std.specs.Prelude.{map, option_map}
use Rattle.acn_asn_syntax.specs.declared.types.AsnType.{AsnType}
use Rattle.acn_asn_syntax.specs.declared.types.Tag.{Tag}
use Rattle.acn_asn_syntax.specs.declared.types.AsnBase.TheVariants as base
use Rattle.acn_asn_syntax.specs.declared.types.Constraint.{Constraint}
use Rattle.acn_asn_syntax.specs.declared.types.Component.{Component}
use Rattle.acn_asn_syntax.specs.declared.types.AsnBase.TheViews.{out-AsnType, out-Component}
use Rattle.acn_asn_syntax.specs.Mirror as plain
use Rattle.acn_asn_syntax.specs.View.{type_view, base_view, constraint_view, component_view, constraints_of}
use Rattle.acn_mentions.specs.Mentions.{Mention, mentions, base_mentions, all_constraint_mentions, default_mentions, between_mentions}
use Rattle.acn_asn_syntax.proofs.Views.{open_type, open_component, view_Of, view_SizeOf}

-- of a type whose data is known
of_data : (v : plain.AsnType) (tag : Option Tag) (b : plain.AsnBase) (cs : plain.Constraints) → v ≡ plain.type_of tag b cs → mentions v ≡ base_mentions b ++ all_constraint_mentions (Some v) cs
unfolding mentions
of_data v tag b cs e = subst (λ (z : plain.AsnType). mentions z ≡ base_mentions b ++ all_constraint_mentions (Some z) cs) (sym e) refl

pub opened_mentions : (t : AsnType) → mentions (type_view t) ≡ base_mentions (base_view (out-AsnType t).base) ++ all_constraint_mentions (Some (type_view t)) (constraints_of (map constraint_view (out-AsnType t).constraints))
opened_mentions t = of_data (type_view t) _ _ _ (open_type t)

abbrev both_of : plain.Component → List Mention
both_of c = mentions c.of ++ default_mentions c.of c.rest

pub opened_component : (c : Component) → mentions (component_view c).of ++ default_mentions (component_view c).of (component_view c).rest ≡ mentions (type_view (out-Component c).of) ++ default_mentions (type_view (out-Component c).of) (out-Component c).rest
opened_component c = ap both_of (open_component c)

pub opened_list : (c : Option Constraint) (t : AsnType) → base_mentions (base_view (base.SequenceOf c t)) ≡ between_mentions (option_map constraint_view c) ++ mentions (type_view t)
unfolding base_mentions
opened_list None t = ap base_mentions (view_Of t)
opened_list (Some c) t = ap base_mentions (view_SizeOf c t)
