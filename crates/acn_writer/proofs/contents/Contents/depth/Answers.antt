use Rattle.std.proofs.Common.{length, sym, ap, ◌∙◌}
use Rattle.acn_writer.proofs.FrameLists.{frames_long}
use Rattle.acn_writer.proofs.contents.Contents.depth.Goals as goal

pub returns : goal.returns
returns g c = c.len.ensures.value ∙ (sym (frames_long c.self.inside.openings.items c.self.inside.holes c.self.invariant) ∙ ap length c.self.view_is)
