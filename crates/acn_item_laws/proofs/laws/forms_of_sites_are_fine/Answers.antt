use Rattle.acn_item_laws.proofs.Fine.{all_fine}
use Rattle.acn_item_laws.proofs.Listed.{all_have_items}
use Rattle.acn_item_laws.proofs.Standing.{all_stand}
use Rattle.acn_item_laws.proofs.laws.forms_of_sites_are_fine.Goals as goal
use Rattle.acn_sites.specs.Sites.{sites_of}

pub returns : goal.returns
returns c = λ w of sound listed none. all_fine w c.forms_are_fine.ensures 1 (sites_of w of) none (all_have_items w sound listed (sites_of w of) (all_stand w of))
