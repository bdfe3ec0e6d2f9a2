use Rattle.acn_grammar.specs.View.{grammar_of, data_of}
use Rattle.acn_lines.proofs.TakenLaw.{line_fits}
use Rattle.acn_lines.proofs.lines.Lines.seen.Goals as goal

pub returns-clause-shaped : goal.returns-clause-shaped
returns-clause-shaped c = line_fits (grammar_of c.args.tree.now.root) (data_of c.in_ok-value.value) c.args.line.now c.in_ok-value.ensures
