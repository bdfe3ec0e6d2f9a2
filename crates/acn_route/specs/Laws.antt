-- Laws of the definitions, as contracts name them.
use Rattle.std.specs.Prelude.{◌≡◌, ℕ, List}
use Rattle.acn_grammar.specs.View.{grammar_of}
use Rattle.acn_packet_laws.specs.Laws.{IsAccepted}
use Rattle.acn_route.specs.Routing.{TreeLine}
use Rattle.acn_route.specs.Space.{Begun, IsUnfinished}
use Rattle.acn_route.specs.declared.count.LineKind.{LineKind}
use Rattle.acn_tree.specs.declared.tree.Tree.{Tree}

-- bytes are packets and the beginning of one in one way at most
abbrev pub OneSpace : Type 0
OneSpace = (bytes rest left : List ℕ) (packets others : List (List ℕ)) → Begun bytes packets rest → IsUnfinished rest → Begun bytes others left → IsUnfinished left → (packets ≡ others) × (rest ≡ left)

-- the line of a packet is told by its tree and its octets
abbrev pub OneLine : Type 0
OneLine = (tree : Tree) (packet : List ℕ) (kind other : LineKind) (text words : List ℕ) → IsAccepted (grammar_of tree.root) → TreeLine tree packet kind text → TreeLine tree packet other words → (kind ≡ other) × (text ≡ words)
