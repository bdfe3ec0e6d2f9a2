use Rattle.acn_sites.specs.Sites.{sites_of}
use Rattle.acn_tree_laws.proofs.Fit.{inserted_fit}
use Rattle.acn_tree_laws.proofs.Kept.{all_fit}
use Rattle.acn_tree_laws.proofs.laws.inserted_fields_of_sources_fit.Goals as goal

pub returns : goal.returns
returns c = λ w of sound. inserted_fit w (sites_of w of) (all_fit w sound c.entries_stand_at_their_places.ensures of)
