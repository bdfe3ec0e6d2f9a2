use Rattle.std.proofs.Common.{None, refl}
use Rattle.std.specs.Prelude.{option_map}
use Rattle.acn_grammar.specs.View.{data_of}
use Rattle.acn_reads.proofs.Nodes.{on_ok_map}
use Rattle.acn_unpack.proofs.Kept.{one_more}
use Rattle.acn_unpack.proofs.values.ValuesKeep.add_absent.Goals as goal

pub returns-clause-says : goal.returns-clause-says
returns-clause-says c = on_ok_map c.push.result (λ e ds said. one_more (option_map data_of) c.args.places.now c.push.new.self None ds None e said refl) c.push.ensures.ok
