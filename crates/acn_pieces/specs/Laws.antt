-- Laws of the definitions, as contracts name them.
use Rattle.std.specs.Prelude.{◌≡◌, ℕ, Bool, List, take}
use Rattle.std.specs.List.{flat_map}
use Rattle.acn_grammar.specs.Grammar.{Grammar, Data}
use Rattle.acn_grammar.specs.Length.{bit_length}
use Rattle.acn_pieces.specs.declared.piece.Piece.{Piece}
use Rattle.acn_pieces.specs.Pieces.{Joined, pieces_of, piece_bits}

-- the pieces of a value, joined, are as many bits as the value has
abbrev pub PiecesAreJoined : Type 0
PiecesAreJoined = (root : Grammar) (d : Data) → Joined 0 (bit_length root 0 d) (pieces_of root d)

-- the bits of pieces that are joined are those of the input up to their end
abbrev pub JoinedPiecesAreTheBits : Type 0
JoinedPiecesAreTheBits = (input : List Bool) (n : ℕ) (found : List Piece) → Joined 0 n found → flat_map (piece_bits input) found ≡ take n input
