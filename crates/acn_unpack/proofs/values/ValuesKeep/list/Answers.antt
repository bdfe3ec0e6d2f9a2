use Rattle.std.proofs.Common.{◌∙◌, sym, ap, List}
use Rattle.acn_grammar.specs.Grammar.{Data, list_of}
use Rattle.acn_grammar.specs.View.{elements_of}
use Rattle.acn_reads.proofs.Runs.{view_list_value}
use Rattle.acn_unpack.proofs.values.ValuesKeep.list.Goals as goal

pub returns : goal.returns
returns c ds said = ap (λ (x : List Data). list_of (elements_of x)) said ∙ sym (view_list_value c.args.elements)
