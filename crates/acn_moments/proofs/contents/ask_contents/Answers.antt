use Rattle.std.proofs.Common.{◌∷◌, [], ℕ, subst}
use Rattle.acn_grammar.specs.Asks as asks
use Rattle.acn_asking.specs.Gathered.{paths_of, Gathers}
use Rattle.acn_asking.proofs.Opens.{on_ok}
use Rattle.acn_asking.proofs.Steps.{both}
use Rattle.acn_moments.proofs.contents.ask_contents.Goals as goal

pub returns : goal.returns
returns c =
    on_ok c.ask_size.result c.ask_size.ensures (λ a root leaves. subst (λ (n : ℕ). Gathers root (asks.counts c.args.path.now n c.args.sizing.now ∷ asks.size_asks (paths_of c.args.slots.now) c.args.path.now n c.args.sizing.now.rule) c.args.gathered.now c.ask_size.new.moments) c.octets_of-octets.ensures
    (both root (asks.counts c.args.path.now c.octets_of-octets.result c.args.sizing.now ∷ []) (asks.size_asks (paths_of c.args.slots.now) c.args.path.now c.octets_of-octets.result c.args.sizing.now.rule) c.args.gathered.now c.count.new.moments c.ask_size.new.moments (c.in_ok-count.ensures root) (a root leaves)))
