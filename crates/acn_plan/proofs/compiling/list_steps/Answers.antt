use Rattle.std.proofs.Common.{arith}
use Rattle.acn_grammar.specs.View.{grammar_of}
use Rattle.acn_plan.proofs.Few.{few_nodes, few_items}
use Rattle.acn_plan.proofs.compiling.list_steps.Goals as goal

pub put_node-requires-clause-few : goal.put_node-requires-clause-few
put_node-requires-clause-few c = (let few = few_nodes (grammar_of c.args.root.now) c.requires.formed in rw c.new-steps.ensures.items (omega (arith, few)))

pub put_node-requires-clause-items : goal.put_node-requires-clause-items
put_node-requires-clause-items c = few_items (grammar_of c.args.root.now) c.requires.named
