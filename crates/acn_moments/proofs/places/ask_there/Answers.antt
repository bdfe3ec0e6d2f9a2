use Rattle.std.proofs.Common.{true}
use Rattle.acn_grammar.specs.Asks as asks
use Rattle.acn_grammar.specs.View.{data_of}
use Rattle.acn_asking.specs.Gathered.{paths_of}
use Rattle.acn_asking.proofs.Opens.{on_ok}
use Rattle.acn_asking.proofs.Steps.{both}
use Rattle.acn_moments.proofs.places.ask_there.Goals as goal

pub returns : goal.returns
returns c =
    on_ok c.ask_presence.result c.ask_presence.ensures (λ a root leaves. both root (asks.own_asks (paths_of c.args.slots.now) c.args.path.now c.args.own (data_of c.args.v.now)) (asks.presence_asks (paths_of c.args.slots.now) c.args.path.now true c.args.presence.now) c.args.gathered.now c.ask_own.new.moments c.ask_presence.new.moments
    (c.in_ok-ask_own.ensures root leaves) (a root leaves))
