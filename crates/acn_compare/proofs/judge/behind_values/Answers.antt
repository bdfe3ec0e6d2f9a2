use Rattle.std.proofs.Common.{sym, ◌∙◌}
use Rattle.acn_compare.proofs.Judged.{in_made, in_none}
use Rattle.acn_compare.proofs.judge.behind_values.Goals as goal

pub returns-in-Some : goal.returns-in-Some
returns-in-Some c = λ by tells. in_made by c.args.slots.now c.args.old.now c.args.new.now c.in-Some.reason tells c.requires.written c.requires.values (sym c.in-Some.is ∙ c.made.ensures)

pub returns-in-None : goal.returns-in-None
returns-in-None c = λ by tells. in_none by c.args.slots.now c.args.old.now c.args.new.now tells c.requires.written c.requires.values (sym c.in-None.is ∙ c.made.ensures)
