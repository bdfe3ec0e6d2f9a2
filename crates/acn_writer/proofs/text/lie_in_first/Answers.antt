use Rattle.std.proofs.Common.{sym, ◌∙◌}
use Rattle.acn_writer.proofs.Breaches.{none_wrong}
use Rattle.acn_writer.proofs.text.lie_in_first.Goals as goal

pub returns-in-Some : goal.returns-in-Some
returns-in-Some c = λ all. none_wrong c.args.alphabet.now _ _ c.args.text.now c.in-Some.ensures (sym c.lie_between.ensures ∙ all)
