-- The bits of pieces that are joined.
use Rattle.std.proofs.Common.{◌≡◌, ℕ, ◌+◌, Bool, List, [], ◌∷◌, ◌++◌, take, drop, refl, sym, ap, ◌∙◌, append-nil}
use Rattle.std.proofs.lemmas.List.{append_assoc}
use Rattle.std.specs.List.{flat_map}
use Rattle.std.proofs.Math.Seq.{take-add}
use Rattle.acn_pieces.specs.declared.piece.Piece.{Piece}
use Rattle.acn_pieces.specs.Laws.{JoinedPiecesAreTheBits}
use Rattle.acn_pieces.specs.Pieces.{Joined, piece_bits}

-- behind the bits up to a place
bits_behind : (input : List Bool) (from to : ℕ) (found : List Piece) → Joined from to found → take from input ++ flat_map (piece_bits input) found ≡ take to input
bits_behind input from to [] h = append-nil (take from input) ∙ ap (λ n. take n input) h
bits_behind input from to (p ∷ ps) h =
    ap (λ n. take from input ++ (take p.count (drop n input) ++ flat_map (piece_bits input) ps)) h.0
    ∙ (sym (append_assoc (take from input) (take p.count (drop from input)) (flat_map (piece_bits input) ps))
    ∙ (ap (λ bs. bs ++ flat_map (piece_bits input) ps) (sym (take-add from p.count input)) ∙ bits_behind input (from + p.count) to ps h.2))

pub joined_bits : JoinedPiecesAreTheBits
joined_bits input n found h = bits_behind input 0 n found h
