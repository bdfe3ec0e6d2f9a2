use Rattle.std.proofs.Common.{rules, Some, ap, ◌∙◌}
use Rattle.acn_writer.proofs.FrameLists.{hole_so, left_so}
use Rattle.acn_writer.proofs.contents.Contents.leave_bare.Goals as goal

pub unskip-requires : goal.unskip-requires
unskip-requires g c = (search rules, hole_so c.self.inside.openings.items c.self.inside.holes c.args.self.now c.len-at.result c.len-at.ensures.value c.self.invariant c.self.view_is (c.requires.some) ∙ ap Some c.requires.bare)

pub invariant_of-self : goal.invariant_of-self
invariant_of-self g c = (left_so c.self.inside.openings.items c.pop-innermost.new.self.items c.self.inside.holes c.unskip.new.self c.args.self.now c.len-at.result c.len-at.ensures.value c.self.invariant c.self.view_is (c.requires.some) c.pop-innermost.ensures.rest c.unskip.ensures).0

pub returns : goal.returns
returns g c = (left_so c.self.inside.openings.items c.pop-innermost.new.self.items c.self.inside.holes c.unskip.new.self c.args.self.now c.len-at.result c.len-at.ensures.value c.self.invariant c.self.view_is (c.requires.some) c.pop-innermost.ensures.rest c.unskip.ensures).1
