use Rattle.std.proofs.Common.{◌∙◌, ap}
use Rattle.acn_asn_syntax.specs.View.{base_view, constraint_view}
use Rattle.acn_world.specs.Repeated.{twice, twice_base, twice_constraint}
use Rattle.acn_mentions.proofs.Joined.{joined, nothing}
use Rattle.acn_asn_syntax.proofs.Views.{view_Boolean, view_Null, view_OctetString, view_BitString, view_Ia5String, view_Ref, view_Set, view_Size}
use Rattle.acn_repeated.proofs.TwiceTypes.{opened_type, opened_list, opened_component, opened_alternative}
use Rattle.acn_repeated.proofs.twice_types.+types.Goals as goal

pub push_twice_base-returns-in-Boolean : goal.push_twice_base-returns-in-Boolean
unfolding twice_base
push_twice_base-returns-in-Boolean t c = nothing _ _ (ap twice_base (ap base_view c.in-Boolean.is ∙ view_Boolean))

pub push_twice_base-returns-in-Null : goal.push_twice_base-returns-in-Null
unfolding twice_base
push_twice_base-returns-in-Null t c = nothing _ _ (ap twice_base (ap base_view c.in-Null.is ∙ view_Null))

pub push_twice_base-returns-in-OctetString : goal.push_twice_base-returns-in-OctetString
unfolding twice_base
push_twice_base-returns-in-OctetString t c = nothing _ _ (ap twice_base (ap base_view c.in-OctetString.is ∙ view_OctetString))

pub push_twice_base-returns-in-BitString : goal.push_twice_base-returns-in-BitString
unfolding twice_base
push_twice_base-returns-in-BitString t c = nothing _ _ (ap twice_base (ap base_view c.in-BitString.is ∙ view_BitString))

pub push_twice_base-returns-in-Ia5String : goal.push_twice_base-returns-in-Ia5String
unfolding twice_base
push_twice_base-returns-in-Ia5String t c = nothing _ _ (ap twice_base (ap base_view c.in-Ia5String.is ∙ view_Ia5String))

pub push_twice_base-returns-in-Ref : goal.push_twice_base-returns-in-Ref
unfolding twice_base
push_twice_base-returns-in-Ref t c = nothing _ _ (ap twice_base (ap base_view c.in-Ref.is ∙ view_Ref c.in-Ref.field-0 c.in-Ref.field-1))

pub push_twice_base-returns-in_ok-push_twice-in-SequenceOf : goal.push_twice_base-returns-in_ok-push_twice-in-SequenceOf
push_twice_base-returns-in_ok-push_twice-in-SequenceOf t c =
    joined _ _ _ _ _ _ (c.in_ok-push_twice_between-in-SequenceOf.ensures {u = tt}) (rw c.get.ensures at (c.in_ok-push_twice-in-SequenceOf.ensures {u = tt}))
    (ap (λ b. twice_base (base_view b)) c.in-SequenceOf.is ∙ opened_list c.in-SequenceOf.between c.in-SequenceOf.of)

pub push_twice-returns : goal.push_twice-returns
unfolding twice
push_twice-returns t c =
    joined _ _ _ _ _ _ (c.in_ok-push_twice_base.ensures {u = tt}) (rw c.items.ensures at (c.in_ok-push_twice_constraints.ensures {u = tt})) (opened_type c.args.of.now)

pub push_twice_component-returns-clause-all : goal.push_twice_component-returns-clause-all
push_twice_component-returns-clause-all t c = joined _ _ _ _ _ _ (c.in_ok-push_again.ensures {u = tt}) (c.in_ok-push_twice.ensures {u = tt}) (opened_component c.args.seen.now c.args.component.now)

pub push_twice_alternative-returns-clause-all : goal.push_twice_alternative-returns-clause-all
push_twice_alternative-returns-clause-all t c = joined _ _ _ _ _ _ (c.in_ok-push_again.ensures {u = tt}) (c.in_ok-push_twice.ensures {u = tt}) (opened_alternative c.args.seen.now c.args.alternative.now)

pub push_twice_constraint-returns-in-Set : goal.push_twice_constraint-returns-in-Set
unfolding twice_constraint
push_twice_constraint-returns-in-Set t c = nothing _ _ (ap twice_constraint (ap constraint_view c.in-Set.is ∙ view_Set c.in-Set.field-0))

pub push_twice_constraint-returns-in-Size : goal.push_twice_constraint-returns-in-Size
unfolding twice_constraint
push_twice_constraint-returns-in-Size t c = nothing _ _ (ap twice_constraint (ap constraint_view c.in-Size.is ∙ view_Size c.in-Size.field-0))
