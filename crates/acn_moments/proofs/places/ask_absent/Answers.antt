use Rattle.std.proofs.Common.{List, ℕ, false, subst}
use Rattle.acn_grammar.specs.Asks as asks
use Rattle.acn_asking.specs.Gathered.{paths_of, Gathers}
use Rattle.acn_moments.proofs.places.ask_absent.Goals as goal

pub returns-clause-said : goal.returns-clause-said
returns-clause-said c root leaves =
    subst (λ (p : List ℕ). Gathers root (asks.presence_asks (paths_of c.args.slots.now) p false c.args.presence.now) c.args.gathered.now c.ask_presence.new.moments) c.push.ensures (c.in_ok-ask_presence.ensures root leaves)
