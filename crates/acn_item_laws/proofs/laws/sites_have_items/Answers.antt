use Rattle.acn_item_laws.proofs.Listed.{all_have_items}
use Rattle.acn_item_laws.proofs.Standing.{all_stand}
use Rattle.acn_item_laws.proofs.laws.sites_have_items.Goals as goal
use Rattle.acn_sites.specs.Sites.{sites_of}

pub returns : goal.returns
returns c = λ w of sound listed. all_have_items w sound listed (sites_of w of) (all_stand w of)
