use Rattle.std.proofs.Common.{◌≡◌, ◌++◌, ◌∷◌, [], Some, None, ◌∙◌, sym, ap}
use Rattle.std.proofs.lemmas.List.{map-append}
use Rattle.std.specs.Prelude.{map}
use Rattle.acn_asn_syntax.specs.Mirror as plain
use Rattle.acn_asn_syntax.specs.declared.types.AsnBase.{AsnBase}
use Rattle.acn_asn_syntax.specs.declared.types.AsnBase.TheVariants as base
use Rattle.acn_asn_syntax.specs.View.{type_view, base_view, constraint_view, component_view}
use Rattle.acn_mentions.specs.Mentioned.{mention_view, mentions_view}
use Rattle.acn_mentions.specs.Mentions.{mentions, base_mentions}
use Rattle.acn_mentions.proofs.Joined.{joined, nothing, the_same, one_more}
use Rattle.acn_asn_syntax.proofs.Views.{type_views, view_Boolean, view_Null, view_OctetString, view_BitString, view_Ia5String, view_Integer, view_Enumerated, view_Ref, view_Of, view_SizeOf, open_type, open_component}
use Rattle.acn_mentions.proofs.TypeMentions.{opened_mentions, opened_component, opened_list}
use Rattle.acn_mentions.proofs.type_mentions.+types.Goals as goal

pub push_base-returns-in-Boolean : goal.push_base-returns-in-Boolean
unfolding base_mentions
push_base-returns-in-Boolean t c = nothing _ _ (ap base_mentions (ap base_view c.in-Boolean.is ∙ view_Boolean))

pub push_base-returns-in-Null : goal.push_base-returns-in-Null
unfolding base_mentions
push_base-returns-in-Null t c = nothing _ _ (ap base_mentions (ap base_view c.in-Null.is ∙ view_Null))

pub push_base-returns-in-OctetString : goal.push_base-returns-in-OctetString
unfolding base_mentions
push_base-returns-in-OctetString t c = nothing _ _ (ap base_mentions (ap base_view c.in-OctetString.is ∙ view_OctetString))

pub push_base-returns-in-BitString : goal.push_base-returns-in-BitString
unfolding base_mentions
push_base-returns-in-BitString t c = nothing _ _ (ap base_mentions (ap base_view c.in-BitString.is ∙ view_BitString))

pub push_base-returns-in-Ia5String : goal.push_base-returns-in-Ia5String
unfolding base_mentions
push_base-returns-in-Ia5String t c = nothing _ _ (ap base_mentions (ap base_view c.in-Ia5String.is ∙ view_Ia5String))

pub push_base-returns-in-Integer : goal.push_base-returns-in-Integer
unfolding base_mentions
push_base-returns-in-Integer t c = nothing _ _ (ap base_mentions (ap base_view c.in-Integer.is ∙ view_Integer c.in-Integer.field-0))

pub push_base-returns-in-Enumerated : goal.push_base-returns-in-Enumerated
unfolding base_mentions
push_base-returns-in-Enumerated t c = nothing _ _ (ap base_mentions (ap base_view c.in-Enumerated.is ∙ view_Enumerated c.in-Enumerated.field-0))

pub push_base-returns-in_ok-push-in-Ref : goal.push_base-returns-in_ok-push-in-Ref
unfolding base_mentions
push_base-returns-in_ok-push-in-Ref t c =
    rw c.in_ok-push-in-Ref.ensures.items (one_more _ _ _ _ (map-append mention_view c.args.all.now.items _) (ap base_mentions (ap base_view c.in-Ref.is ∙ view_Ref c.in-Ref.from c.in-Ref.name)))

pub push_base-returns-in_ok-push_type-in-SequenceOf : goal.push_base-returns-in_ok-push_type-in-SequenceOf
push_base-returns-in_ok-push_type-in-SequenceOf t c =
    joined _ _ _ _ _ _ (c.in_ok-push_between-in-SequenceOf.ensures {u = tt}) (rw c.get.ensures at (c.in_ok-push_type-in-SequenceOf.ensures {u = tt}))
    (ap (λ b. base_mentions (base_view b)) c.in-SequenceOf.is ∙ opened_list c.in-SequenceOf.between c.in-SequenceOf.of)

pub push_component-returns : goal.push_component-returns
push_component-returns t c =
    joined _ _ _ _ _ _ (c.in_ok-push_type.ensures {u = tt}) (c.in_ok-push_default.ensures {u = tt}) (opened_component c.args.component.now)

pub push_type-returns : goal.push_type-returns
unfolding mentions
push_type-returns t c =
    joined _ _ _ _ _ _ (c.in_ok-push_base.ensures {u = tt}) (rw c.items.ensures at (c.in_ok-push_constraints.ensures {u = tt})) (opened_mentions c.args.of.now)
