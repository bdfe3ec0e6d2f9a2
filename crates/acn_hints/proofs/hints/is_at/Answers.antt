use Rattle.std.proofs.Common.{sym, ◌∙◌}
use Rattle.acn_hints.proofs.HintedNames.{among_at}
use Rattle.acn_hints.proofs.hints.is_at.Goals as goal

pub returns-in-Some : goal.returns-in-Some
returns-in-Some g c = λ h. among_at g.T.HasName.name_of c.args.name.now c.in-Some.own.now c.args.all.now c.args.at (c.in-Some.ensures {u = tt}) (sym c.same.ensures ∙ h)
