use Rattle.std.proofs.Common.{ap, ◌∙◌}
use Rattle.acn_firsts.specs.Placed.{place_of}
use Rattle.acn_firsts.proofs.Entries.{looked_up}
use Rattle.acn_firsts.proofs.Kept.{kept}
use Rattle.acn_firsts.proofs.firsts.Firsts.get.Goals as goal

pub returns-clause-value : goal.returns-clause-value
returns-clause-value c = c.copied.ensures ∙ (c.get.ensures.value ∙ (looked_up (λ k. k.items) c.args.name.now c.self.inside.places.entries ∙ ap (place_of c.args.name.now) c.self.view_is))

pub returns-clause-first : goal.returns-clause-first
returns-clause-first c all e = returns-clause-value c ∙ (ap (place_of c.args.name.now) e ∙ kept c.args.name.now all)
