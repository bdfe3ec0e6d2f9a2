use Rattle.std.proofs.Common.{◌∙◌, sym, ap, List, Option}
use Rattle.acn_grammar.specs.Grammar.{Data, record_of}
use Rattle.acn_grammar.specs.View.{places_of}
use Rattle.acn_grammar.proofs.Views.{view_seq}
use Rattle.acn_unpack.proofs.values.ValuesKeep.sequence.Goals as goal

pub returns : goal.returns
returns c ds said = ap (λ (x : List (Option Data)). record_of (places_of x)) said ∙ sym (view_seq c.args.places)
