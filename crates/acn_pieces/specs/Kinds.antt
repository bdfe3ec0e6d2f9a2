-- The kinds of pieces in words. (This program's own.)
use Rattle.std.specs.Prelude.{ℕ, List, codes}
use Rattle.acn_pieces.specs.declared.piece.PieceKind.{PieceKind}
use Rattle.acn_pieces.specs.declared.piece.PieceKind.TheVariants.{Pad, Presence, Size, Index, Leaf, Mark, Fill}

abbrev pub kind_text : PieceKind → List ℕ
kind_text Pad = codes "pad"
kind_text Presence = codes "presence"
kind_text Size = codes "size"
kind_text Index = codes "index"
kind_text Leaf = codes "leaf"
kind_text Mark = codes "mark"
kind_text Fill = codes "fill"
