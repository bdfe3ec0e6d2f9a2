use Rattle.acn_homes.proofs.Followed.{numbers_follow}
use Rattle.acn_homes.proofs.laws.numbers_follow_preorder.Goals as goal

pub returns : goal.returns
returns c = numbers_follow
