use Rattle.std.proofs.Common.{ap, ◌∙◌}
use Rattle.std.specs.Prelude.{is_some}
use Rattle.acn_json.specs.Few.{component_places}
use Rattle.acn_json.proofs.Names.{placed}
use Rattle.acn_json.proofs.members.is_noted.Goals as goal

pub returns : goal.returns
returns c = λ fs e. c.is_some.ensures ∙ (ap is_some (c.get.ensures.first (component_places fs) e) ∙ placed c.args.name.now fs)
