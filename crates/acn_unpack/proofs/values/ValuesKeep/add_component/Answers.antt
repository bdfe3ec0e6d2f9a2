use Rattle.std.proofs.Common.{Some, ap}
use Rattle.std.specs.Prelude.{option_map}
use Rattle.acn_grammar.specs.View.{data_of}
use Rattle.acn_reads.proofs.Nodes.{on_ok_map}
use Rattle.acn_unpack.proofs.Kept.{one_more}
use Rattle.acn_unpack.proofs.values.ValuesKeep.add_component.Goals as goal

pub returns-clause-says : goal.returns-clause-says
returns-clause-says c = on_ok_map c.push.result (λ e ds d said says. one_more (option_map data_of) c.args.places.now c.push.new.self (Some c.args.component) ds (Some d) e said (ap Some says)) c.push.ensures.ok
