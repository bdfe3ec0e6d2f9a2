-- Laws of the definitions, as contracts name them.
use Rattle.std.specs.Prelude.{Bool, List, [], ◌++◌}
use Rattle.std.specs.List.{AllZip}
use Rattle.acn_grammar.specs.Code.{Mode}
use Rattle.acn_grammar.specs.Grammar.{Grammar, Data}
use Rattle.acn_grammar.specs.Spell.{Spell}
use Rattle.acn_packet_laws.specs.Laws.{IsAccepted}
use Rattle.acn_pieces.specs.Pieces.{pieces_of, piece_bits}
use Rattle.acn_piece_laws.specs.Meanings.{Means, meanings_of}

-- in the packet of a value, whatever follows it, the bits of each piece mean its part
abbrev pub PiecesTellTheirParts : Type 0
PiecesTellTheirParts =
    (root : Grammar) (mode : Mode) (d : Data) (packet behind : List Bool) → IsAccepted root → Spell root mode root [] d 0 packet → AllZip (λ p m. Means mode m (piece_bits (packet ++ behind) p)) (pieces_of root d) (meanings_of root d)
