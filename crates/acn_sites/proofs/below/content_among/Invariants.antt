use Rattle.std.proofs.Common.{◌≡◌, drop}
use Rattle.acn_world.specs.Chained.{constraints_view}
use Rattle.acn_sites.specs.Sites.{content_among}
use Rattle.acn_sites.proofs.below.content_among.Given as goal

abbrev pub invariant-loop-owner : goal.invariant-loop-owner
invariant-loop-owner l = content_among (constraints_view (drop l.owner-index l.constraints)) ≡ content_among (constraints_view l.constraints)
