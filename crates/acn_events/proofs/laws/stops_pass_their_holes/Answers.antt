use Rattle.acn_events.proofs.Passing.{stops_passed}
use Rattle.acn_events.proofs.laws.stops_pass_their_holes.Goals as goal

pub returns : goal.returns
returns c = stops_passed c.events_are_in_order.ensures
