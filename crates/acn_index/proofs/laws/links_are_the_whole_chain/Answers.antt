use Rattle.acn_index.proofs.LastLinks.{each_chain}
use Rattle.acn_index.proofs.laws.links_are_the_whole_chain.Goals as goal

pub returns : goal.returns
returns c = λ w l ls chain. each_chain w c.endless_ways_have_no_end.ensures l ls chain
