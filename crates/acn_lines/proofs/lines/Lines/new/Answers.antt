use Rattle.acn_grammar.specs.View.{grammar_of}
use Rattle.acn_lines.proofs.NamesLaw.{names_differ}
use Rattle.acn_lines.proofs.lines.Lines.new.Goals as goal

pub order_of-requires : goal.order_of-requires
order_of-requires c = names_differ (grammar_of c.root.result.now) c.root.ensures.formed
