use Rattle.std.proofs.Common.{◌∙◌, sym, ap}
use Rattle.acn_grammar.specs.Grammar.{alt}
use Rattle.acn_grammar.specs.View.{data_of}
use Rattle.acn_grammar.specs.declared.value.Value.{Alt as AltValue}
use Rattle.acn_reads.proofs.ChoiceReads.{view_alt_value}
use Rattle.acn_unpack.proofs.values.ValuesKeep.alternative.Goals as goal

pub returns-clause-says : goal.returns-clause-says
returns-clause-says c d said = ap (alt c.args.i) said ∙ sym (ap data_of (ap (AltValue c.args.i) c.in_ok-boxed.ensures) ∙ view_alt_value c.args.i c.args.kept)
