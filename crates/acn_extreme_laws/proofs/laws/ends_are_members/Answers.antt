use Rattle.acn_extreme_laws.proofs.Parts.{ends_are_members}
use Rattle.acn_extreme_laws.proofs.laws.ends_are_members.Goals as goal

pub returns : goal.returns
returns c = ends_are_members
