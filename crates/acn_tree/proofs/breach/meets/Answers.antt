use Rattle.std.proofs.Common.{sym, subst, length}
use Rattle.acn_tree.specs.Room.{HasRoom}
use Rattle.acn_grammar.specs.View.{grammar_of}
use Rattle.acn_tree.proofs.RoomLaw.{room-in-tree}
use Rattle.acn_tree.proofs.breach.meets.Goals as goal

pub node_meets-requires : goal.node_meets-requires
node_meets-requires c = subst (λ path. HasRoom (length path) (grammar_of c.args.node.now)) (sym c.new-path.ensures) (room-in-tree (grammar_of c.args.node.now) c.requires)
