use Rattle.std.proofs.Common.{◌∙◌, ap, arith}
use Rattle.acn_homes.proofs.AtHome.{by_test}
use Rattle.acn_homes.proofs.laws.homes_list_their_slots.Goals as goal

pub returns : goal.returns
returns c = λ all path test h. by_test path test 0 all (λ k d l. ap test (omega arith) ∙ h k d l)
