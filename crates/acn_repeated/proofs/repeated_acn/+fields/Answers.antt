use Rattle.std.proofs.Common.{◌++◌, ◌∙◌, ap}
use Rattle.acn_acn_syntax.specs.Mirror.{Field}
use Rattle.acn_acn_syntax.specs.View.{field_of, braces_view}
use Rattle.acn_world.specs.Repeated.{again, field_name, twice_field, twice_braces}
use Rattle.acn_mentions.proofs.Joined.{joined}
use Rattle.acn_acn_syntax.proofs.Views.{view_plain}
use Rattle.acn_repeated.proofs.repeated_acn.+fields.Goals as goal

pub push_twice_field-returns-in_ok-push_twice_fields-in-Some-clause-all : goal.push_twice_field-returns-in_ok-push_twice_fields-in-Some-clause-all
unfolding twice_field twice_braces
push_twice_field-returns-in_ok-push_twice_fields-in-Some-clause-all t c =
    joined _ _ _ _ _ _ (c.in_ok-push_again-in-Plain.ensures {u = tt}) (rw (c.nothing_seen-inner.ensures, c.items.ensures) at (c.in_ok-push_twice_fields-in-Some.ensures {u = tt}))
    (ap (λ (v : Field). again (field_name v) c.args.seen.now ++ twice_field v) (ap field_of c.in-Plain.is ∙ view_plain c.in-Plain.name c.in-Plain.arguments c.in-Plain.attributes c.in-Plain.fields) ∙ ap (λ fs. again c.in-Plain.name c.args.seen.now ++ twice_braces (braces_view fs)) c.in-Some.is)
