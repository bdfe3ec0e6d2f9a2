use Rattle.std.proofs.Common.{[]}
use Rattle.acn_grammar.specs.Walk.{root_node}
use Rattle.acn_home_laws.proofs.Rising.{nodes_rise}
use Rattle.acn_home_laws.proofs.laws.nodes_rise.Goals as goal

pub returns : goal.returns
returns c = λ root. nodes_rise root_node [] [] root
