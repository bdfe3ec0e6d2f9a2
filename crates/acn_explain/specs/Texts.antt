-- The lines of packets that are explained. (This program's own.)
use Rattle.std.specs.Prelude.{ℕ, ◌-◌, Bool, List, [], ◌∷◌, ◌++◌, length, codes}
use Rattle.std.specs.Fmt.{decimal}
use Rattle.std.specs.List.{concat, flat_map}
use Rattle.acn_num.specs.Bits.{bits}
use Rattle.acn_grammar.specs.Grammar.{Grammar, Data}
use Rattle.acn_grammar.specs.Length.{bit_length}
use Rattle.acn_grammar.specs.View.{grammar_of}
use Rattle.acn_tree.specs.declared.tree.Tree.{Tree}
use Rattle.acn_report.specs.Digits.{bits_text}
use Rattle.acn_report.specs.Names.{path_text}
use Rattle.acn_pieces.specs.declared.piece.Piece.{Piece}
use Rattle.acn_pieces.specs.declared.piece.PieceKind.TheVariants.{Fill}
use Rattle.acn_pieces.specs.Kinds.{kind_text}
use Rattle.acn_pieces.specs.Pieces.{part, pieces_of, piece_bits}

-- a piece: `AT COUNT PATH KIND BITS`
abbrev pub piece_line : Tree → List Bool → Piece → List ℕ
piece_line tree input p =
    concat (decimal p.at ∷ codes " " ∷ decimal p.count ∷ codes " " ∷ path_text tree p.path ∷ codes " " ∷ kind_text p.kind ∷ codes " " ∷ bits_text (piece_bits input p) ∷ codes "\n" ∷ [])

-- in front of its pieces stand the number of a packet and how many bits it has
abbrev pub packet_line : (number n : ℕ) → List ℕ
packet_line number n = concat (codes "packet " ∷ decimal number ∷ codes " " ∷ decimal n ∷ codes "\n" ∷ [])

-- the pieces of a packet of a recording: behind those of its value the fill bits, if there are any, as bits of the whole
abbrev pub recorded_pieces : Grammar → Data → List Bool → List Piece
recorded_pieces root d whole = pieces_of root d ++ part [] Fill (bit_length root 0 d) (length whole - bit_length root 0 d)

-- the lines of a packet of a recording, by its number, its value and its octets
abbrev pub packet_text : Tree → (number : ℕ) → Data → (piece : List ℕ) → List ℕ
packet_text tree number d piece =
    packet_line number (bit_length (grammar_of tree.root) 0 d) ++ flat_map (piece_line tree (bits piece)) (recorded_pieces (grammar_of tree.root) d (bits piece))
