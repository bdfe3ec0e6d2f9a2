use Rattle.acn_tree_laws.proofs.Joined.{tree_where_names_fit}
use Rattle.acn_tree_laws.proofs.laws.made_trees_are_trees.Goals as goal

pub returns : goal.returns
returns c = λ w of s given none. tree_where_names_fit c.forms_of_sites_are_fine.ensures c.nodes_stand_for_sites.ensures c.made_tree_is_fine_where_its_leaves_are.ensures
    w of s given.sound given.items none (c.inserted_fields_of_sources_fit.ensures w of given.sound) (c.names_inside_of_sources_differ.ensures w of given.sound given.alternatives)
