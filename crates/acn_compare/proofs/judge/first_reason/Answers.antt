use Rattle.std.proofs.Common.{sym, ◌∙◌}
use Rattle.acn_grammar.specs.View.{grammar_of}
use Rattle.acn_compare.proofs.Judged.{in_written}
use Rattle.acn_compare.proofs.judge.first_reason.Goals as goal

pub returns-in-Some : goal.returns-in-Some
returns-in-Some c = λ by tells. in_written by (grammar_of c.args.old.now) (grammar_of c.args.new.now) c.in-Some.reason (sym c.in-Some.is ∙ c.written.ensures)
