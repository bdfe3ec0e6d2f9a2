use Rattle.std.proofs.Common.{◌≡◌, ◌++◌, [], None, Some, ◌∙◌, sym, ap}
use Rattle.std.specs.Prelude.{flat_map}
use Rattle.std.proofs.lemmas.List.{append-nil}
use Rattle.acn_acn_syntax.specs.View.{field_of, fields_view, braces_view}
use Rattle.acn_acn_syntax.specs.Mirror as plain
use Rattle.acn_mentions.specs.AcnMentioned.{acn_mentions_view}
use Rattle.acn_mentions.specs.Mentions.{attribute_mentions, field_mentions, braces_mentions}
use Rattle.acn_mentions.proofs.Joined.{joined, nothing}
use Rattle.acn_acn_syntax.proofs.Views.{view_plain, view_inserted, view_number}
use Rattle.acn_mentions.proofs.entry_mentions.+fields.Goals as goal

pub push_field-returns-in-Number : goal.push_field-returns-in-Number
unfolding field_mentions
push_field-returns-in-Number t c = nothing _ _ (ap field_mentions (ap field_of c.in-Number.is ∙ view_number c.in-Number.field-0 c.in-Number.field-1))

pub push_field-returns-in_ok-push_attributes-in-Inserted : goal.push_field-returns-in_ok-push_attributes-in-Inserted
unfolding field_mentions
push_field-returns-in_ok-push_attributes-in-Inserted t c =
    joined _ _ _ _ _ _ (c.in_ok-push_kind-in-Inserted.ensures {u = tt}) (rw c.items-in-Inserted.ensures at (c.in_ok-push_attributes-in-Inserted.ensures {u = tt}))
    (ap field_mentions (ap field_of c.in-Inserted.is ∙ view_inserted c.in-Inserted.name c.in-Inserted.kind c.in-Inserted.attributes))

pub push_field-returns-in-None : goal.push_field-returns-in-None
unfolding field_mentions braces_mentions
push_field-returns-in-None t c =
    joined _ _ _ _ _ _ (rw c.items.ensures at (c.in_ok-push_attributes-in-Plain.ensures {u = tt})) (sym (append-nil _))
    (ap field_mentions (ap field_of c.in-Plain.is ∙ view_plain c.in-Plain.name c.in-Plain.arguments c.in-Plain.attributes c.in-Plain.fields) ∙ ap (λ fs. flat_map attribute_mentions c.in-Plain.attributes ++ braces_mentions (braces_view fs)) c.in-None.is)

pub push_field-returns-in_ok-push_fields-in-Some : goal.push_field-returns-in_ok-push_fields-in-Some
unfolding field_mentions braces_mentions
push_field-returns-in_ok-push_fields-in-Some t c =
    joined _ _ _ _ _ _ (rw c.items.ensures at (c.in_ok-push_attributes-in-Plain.ensures {u = tt})) (rw c.items-in-Some.ensures at (c.in_ok-push_fields-in-Some.ensures {u = tt}))
    (ap field_mentions (ap field_of c.in-Plain.is ∙ view_plain c.in-Plain.name c.in-Plain.arguments c.in-Plain.attributes c.in-Plain.fields) ∙ ap (λ fs. flat_map attribute_mentions c.in-Plain.attributes ++ braces_mentions (braces_view fs)) c.in-Some.is)
