use Rattle.acn_grammar.specs.View.{grammar_of}
use Rattle.acn_world.specs.Viewed.{world_view}
use Rattle.acn_merge.proofs.Formed.{well_formed}
use Rattle.acn_merge.proofs.merging.tree_of.Goals as goal

pub formed-requires : goal.formed-requires
formed-requires c = well_formed (world_view c.args.world.now) c.args.of (grammar_of c.in_ok-root.root) c.made_trees_are_trees.ensures c.requires.sources c.requires.none c.in_ok-root.ensures
