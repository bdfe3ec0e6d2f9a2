use Rattle.acn_made_laws.proofs.Made.{without_reason}
use Rattle.acn_made_laws.proofs.laws.sites_have_no_reason.Goals as goal

pub returns : goal.returns
returns c = without_reason
