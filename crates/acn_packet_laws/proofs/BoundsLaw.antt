-- Every spelling's length lies between the bounds of its tree.
use Rattle.acn_grammar.proofs.SpanLaw.{within_bounds}
use Rattle.acn_grammar.proofs.TreeRules.{tree_fine}
use Rattle.acn_packet_laws.specs.Laws.{BoundsHold}

pub bounds_hold : BoundsHold
bounds_hold root mode d bs tree small t = within_bounds root mode (tree_fine root tree) small d bs t
