use Rattle.acn_grammar.specs.View.{grammar_of}
use Rattle.acn_tree.proofs.KeptLaw.{kept-in-tree}
use Rattle.acn_tree.proofs.extent.node_interval.Goals as goal

pub node_bounds-requires : goal.node_bounds-requires
node_bounds-requires c = kept-in-tree (grammar_of c.args.node.now) c.requires
