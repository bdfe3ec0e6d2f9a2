use Rattle.acn_homes.proofs.Followed.{named_numbered}
use Rattle.acn_homes.proofs.laws.named_fields_are_numbered.Goals as goal

pub returns : goal.returns
returns c = named_numbered
