use Rattle.acn_events.proofs.Later.{stops_keep}
use Rattle.acn_events.proofs.laws.stops_keep_what_is_later.Goals as goal

pub returns : goal.returns
returns c = stops_keep c.events_are_in_order.ensures
