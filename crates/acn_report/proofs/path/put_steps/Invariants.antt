use Rattle.std.proofs.Common.{drop}
use Rattle.acn_grammar.specs.View.{grammar_of}
use Rattle.acn_print.proofs.Joining.{Completes}
use Rattle.acn_report.specs.Names.{steps_text}
use Rattle.acn_report.proofs.path.put_steps.Given as goal

abbrev pub invariant-loop-step : goal.invariant-loop-step
invariant-loop-step g l =
    Completes (steps_text l.elements (grammar_of l.root) l.steps) (g.O.Sink.taken l.fn.out, g.O.Sink.faults l.fn.out) (steps_text l.elements (grammar_of l.at) (drop l.step-index l.steps)) (g.O.Sink.taken l.out, g.O.Sink.faults l.out)
