use Rattle.acn_events.proofs.Asking.{events_ask}
use Rattle.acn_events.proofs.laws.events_ask.Goals as goal

pub returns : goal.returns
returns c = events_ask
