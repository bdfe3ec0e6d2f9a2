use Rattle.acn_single.proofs.Ordered.{ordered}
use Rattle.acn_single.proofs.characters.other_character.Goals as goal

pub other_than-requires-clause-order : goal.other_than-requires-clause-order
other_than-requires-clause-order c = ordered _ c.ranges-in-Some.result.now c.ranges-in-Some.ensures.ordered
