use Rattle.std.proofs.Common.{◌∙◌}
use Rattle.acn_slots.specs.Listed.{texts}
use Rattle.acn_slots.specs.View.{braces_view}
use Rattle.acn_slots.proofs.FirstListed.{text_alone}
use Rattle.acn_slots.proofs.listed.Listed.text_named.Goals as goal

pub returns : goal.returns
returns c = c.text_alone.ensures ∙ text_alone (texts (braces_view c.args.self.now.braces)) c.args.name.now _ c.text_at.ensures
