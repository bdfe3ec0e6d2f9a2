use Rattle.std.proofs.Common.{rules, ◌∙◌}
use Rattle.acn_writer.proofs.FrameLists.{none_kept}
use Rattle.acn_writer.proofs.contents.Contents.close.Goals as goal

pub close-requires : goal.close-requires
close-requires g c = (search rules, none_kept c.self.inside.holes c.self.inside.openings.items c.self.invariant (c.self.view_is ∙ c.requires))
