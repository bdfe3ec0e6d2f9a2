use Rattle.std.proofs.Common.{◌∙◌, ap}
use Rattle.acn_homes.specs.Homes.{at_home}
use Rattle.acn_made.proofs.Views.{sequence_whole}
use Rattle.acn_made.proofs.parts.sequence_node.Goals as goal

pub returns : goal.returns
returns c = sequence_whole c.boxed.result c.alignment_at.result _ c.args.fields c.in_ok-home.home _ c.alignment_at.ensures
    (c.in_ok-home.ensures ∙ (c.at_home.ensures ∙ ap (at_home c.args.homes.now) c.items.ensures)) c.boxed.ensures
