use Rattle.std.proofs.Common.{rules}
use Rattle.acn_grammar.specs.declared.value.Value.{the_lemmas}
use Rattle.acn_lines.proofs.LeafLaw.{null_taken}
use Rattle.acn_lines.proofs.leaves.take_null.Goals as goal

pub returns : goal.returns
returns c items = null_taken items _ _ _ c.in_ok-take_nothing.ensures (search (rules, the_lemmas))
