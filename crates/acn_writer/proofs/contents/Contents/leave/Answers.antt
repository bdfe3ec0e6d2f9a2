use Rattle.std.proofs.Common.{rules, Some, sym, ap, ◌∙◌}
use Rattle.acn_writer.proofs.FrameLists.{hole_so, left_so, some_begun}
use Rattle.acn_writer.proofs.LeafLists.{same_some}
use Rattle.acn_writer.proofs.contents.Contents.leave.Goals as goal

pub release-requires : goal.release-requires
release-requires g c = (search rules, (c.requires.0, hole_so c.self.inside.openings.items c.self.inside.holes c.args.self.now c.len-at.result c.len-at.ensures.value c.self.invariant c.self.view_is (some_begun c.args.self.now c.requires.0 c.requires.1) ∙ ap Some c.requires.1))

pub invariant_of-self : goal.invariant_of-self
invariant_of-self g c = (left_so c.self.inside.openings.items c.pop-innermost.new.self.items c.self.inside.holes c.release.new.self c.args.self.now c.len-at.result c.len-at.ensures.value c.self.invariant c.self.view_is (some_begun c.args.self.now c.requires.0 c.requires.1) c.pop-innermost.ensures.rest c.release.ensures.rest).0

pub returns-clause-hole : goal.returns-clause-hole
returns-clause-hole g c = same_some (sym (hole_so c.self.inside.openings.items c.self.inside.holes c.args.self.now c.len-at.result c.len-at.ensures.value c.self.invariant c.self.view_is (some_begun c.args.self.now c.requires.0 c.requires.1)) ∙ c.release.ensures.hole)

pub returns-clause-rest : goal.returns-clause-rest
returns-clause-rest g c = (left_so c.self.inside.openings.items c.pop-innermost.new.self.items c.self.inside.holes c.release.new.self c.args.self.now c.len-at.result c.len-at.ensures.value c.self.invariant c.self.view_is (some_begun c.args.self.now c.requires.0 c.requires.1) c.pop-innermost.ensures.rest c.release.ensures.rest).1
