use Rattle.acn_sites.specs.Sites.{sites_of}
use Rattle.acn_tree_laws.proofs.Differ.{all_differ_inside}
use Rattle.acn_tree_laws.proofs.Kept.{all_fit}
use Rattle.acn_tree_laws.proofs.laws.names_inside_of_sources_differ.Goals as goal

pub returns : goal.returns
returns c = λ w of sound listed. all_differ_inside w sound c.no_type_repeats_a_name.ensures listed (sites_of w of) (c.bases_stand.ensures w of) (all_fit w sound c.entries_stand_at_their_places.ensures of)
