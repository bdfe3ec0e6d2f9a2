use Rattle.std.proofs.Common.{◌∙◌}
use Rattle.std.specs.Prelude.{map}
use Rattle.acn_asn_syntax.specs.View.{component_view}
use Rattle.acn_slots.proofs.FirstListed.{component_alone}
use Rattle.acn_slots.proofs.listed.Listed.component_named.Goals as goal

pub returns : goal.returns
returns c = c.component_alone.ensures ∙ component_alone (map component_view c.args.self.now.components.now) c.args.name.now _ c.component_at.ensures
