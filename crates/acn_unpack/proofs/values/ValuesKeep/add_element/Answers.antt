use Rattle.acn_grammar.specs.View.{data_of}
use Rattle.acn_reads.proofs.Nodes.{on_ok_map}
use Rattle.acn_unpack.proofs.Kept.{one_more}
use Rattle.acn_unpack.proofs.values.ValuesKeep.add_element.Goals as goal

pub returns-clause-says : goal.returns-clause-says
returns-clause-says c = on_ok_map c.push.result (λ e ds d said says. one_more data_of c.args.elements.now c.push.new.self c.args.element ds d e said says) c.push.ensures.ok
