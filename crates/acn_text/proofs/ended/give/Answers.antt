use Rattle.std.proofs.Common.{refl, [], ◌∷◌}
use Rattle.std.proofs.lemmas.Fn.{FoldsTo-push}
use Rattle.acn_text.proofs.ended.give.Goals as goal

pub returns-then-is_in-clause-given : goal.returns-then-is_in-clause-given
returns-then-is_in-clause-given g c = (c.args.octet ∷ [], FoldsTo-push (λ p x q. goal.F-step g p x tt q) c.args.each.now [] c.args.each.now c.args.octet c.each.new.self refl c.each.ensures, λ _. refl)
