-- What explaining a packet answers, and how explaining the packets of a recording ends. (This profile's own.)
use Rattle.std.specs.Prelude.{◌≡◌, ℕ, Bool, List, Option, Result, take}
use Rattle.std.specs.List.{AllZip, flat_map}
use Rattle.acn_grammar.specs.Code.{Any}
use Rattle.acn_grammar.specs.Front.{Front}
use Rattle.acn_grammar.specs.Grammar.{Grammar, Data}
use Rattle.acn_grammar.specs.View.{grammar_of}
use Rattle.acn_piece_laws.specs.Meanings.{Means, meanings_of}
use Rattle.acn_pieces.specs.declared.piece.Piece.{Piece}
use Rattle.acn_pieces.specs.Pieces.{pieces_of, piece_bits, Joined}
use Rattle.acn_reads.specs.Answers.{OnlyFront}
use Rattle.acn_stream.specs.Decoding.{ShowEnds}
use Rattle.acn_stream.specs.Recording.{texts}
use Rattle.acn_stream.specs.declared.stream_fault.StreamFault.{StreamFault}
use Rattle.acn_tree.specs.declared.tree.Tree.{Tree}
use Rattle.acn_explain.specs.Texts.{packet_text}

-- The pieces of the one packet at the front of an input: its value tells them, joined they are its bits, and the bits of each are those of its part by the grammar.
pub record ArePieces (root : Grammar) (input : List Bool) (found : List Piece) : Type 0 where
  pub value : Data
  pub size : ℕ
  pub front : Front root input value size
  pub alone : OnlyFront root input value size
  pub are : found ≡ pieces_of root value
  pub joined : Joined 0 size found
  pub whole : flat_map (piece_bits input) found ≡ take size input
  pub parts : AllZip (λ p m. Means Any m (piece_bits input p)) found (meanings_of root value)

-- as decoding ends, with the lines of its pieces in place of each packet's line
abbrev pub ExplainEnds : Tree → (limit : ℕ) → (i i' o o' : Option (List ℕ)) → Result ℕ StreamFault → Type 0
ExplainEnds tree = ShowEnds (grammar_of tree.root) (texts (grammar_of tree.root) (packet_text tree) 1)
