use Rattle.std.proofs.Common.{rules}
use Rattle.acn_grammar.specs.declared.value.Value.{the_lemmas}
use Rattle.acn_lines.proofs.LeafLaw.{truth_taken}
use Rattle.acn_lines.proofs.leaves.take_truth.Goals as goal

pub returns : goal.returns
returns c items = truth_taken items c.in_ok-truth.truth _ _ _ c.in_ok-truth.ensures (search (rules, the_lemmas))
