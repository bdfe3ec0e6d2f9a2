use Rattle.acn_grammar.specs.View.{grammar_of}
use Rattle.acn_report.proofs.Rooms.{walkable}
use Rattle.acn_warnings.proofs.walk.put_warnings.Goals as goal

pub put_node-requires : goal.put_node-requires
put_node-requires g c = rw c.new-path.ensures (walkable (grammar_of c.root.result.now) c.root.ensures.formed)
