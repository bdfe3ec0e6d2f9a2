use Rattle.std.proofs.Common.{ap, ◌∙◌}
use Rattle.std.specs.Prelude.{option_and_then}
use Rattle.acn_slots.specs.Slots.{default_of, no_use, use_of}
use Rattle.acn_slots.specs.View.{braces_view}
use Rattle.acn_sites.proofs.NamedUse.{among_texts}
use Rattle.acn_sites.proofs.below.use_named.Goals as goal

pub returns : goal.returns
returns c =
    c.use_or_none.ensures ∙ (ap (λ o. default_of (option_and_then use_of o) no_use) c.text_named.ensures ∙ among_texts (braces_view c.args.listed.now.braces) c.args.name.now)
