use Rattle.std.proofs.Common.{Some, sym, ap, ◌∙◌, option_map}
use Rattle.acn_slots.proofs.listed.Listed.noted_places.Goals as goal

pub returns-in-Some : goal.returns-in-Some
returns-in-Some c = c.args.self.now.placed _ (ap (option_map (λ p. p.value)) c.in-Some.is ∙ ap Some (sym c.as_ref.ensures))
