use Rattle.acn_packet_laws.proofs.LeafReaches.{leaf_steady}
use Rattle.acn_packet_laws.proofs.Reaches.{refusal_steady}
use Rattle.acn_packet_laws.proofs.TextReaches.{text_steady}
use Rattle.acn_grammar.proofs.TreeRules.{tree_fine}
use Rattle.acn_packet_laws.proofs.laws.failures_rest_on_bits.Goals as goal

pub returns : goal.returns
returns c = λ root input other fault reach tree t r e. refusal_steady root leaf_steady text_steady (tree_fine root tree) input other fault reach t r e
