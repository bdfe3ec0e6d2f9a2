-- The text of a piece's line, and what a buffer keeps.
use Rattle.std.proofs.Common.{◌≡◌, ℕ, Bool, List, [], ◌∷◌, ◌++◌, sym, ap, ◌∙◌, append-nil}
use Rattle.std.specs.Prelude.{codes, Result, Ok, Err, OnErr}
use Rattle.std.specs.Fmt.{decimal}
use Rattle.std.specs.List.{concat}
use Rattle.acn_json.specs.Kept.{Kept}
use Rattle.acn_pieces.specs.declared.piece.Piece.{Piece}
use Rattle.acn_pieces.specs.Kinds.{kind_text}
use Rattle.acn_pieces.specs.Pieces.{piece_bits}
use Rattle.acn_report.specs.Digits.{bits_text}
use Rattle.acn_report.specs.Names.{path_text}
use Rattle.acn_tree.specs.declared.tree.Tree.{Tree}
use Rattle.acn_explain.specs.Texts.{piece_line}

-- with a word for the kind, and some bits
abbrev pub line_with : Tree → Piece → (word : List ℕ) → List Bool → List ℕ
line_with tree p word bs = concat (decimal p.at ∷ codes " " ∷ decimal p.count ∷ codes " " ∷ path_text tree p.path ∷ codes " " ∷ word ∷ codes " " ∷ bits_text bs ∷ codes "\n" ∷ [])

pub line_is : (tree : Tree) (input : List Bool) (p : Piece) (word : List ℕ) (bs : List Bool) → word ≡ kind_text p.kind → bs ≡ piece_bits input p → line_with tree p word bs ≡ piece_line tree input p
line_is tree input p word bs e f = ap (λ (x : List ℕ). line_with tree p x bs) e ∙ ap (λ (x : List Bool). line_with tree p (kind_text p.kind) x) f

-- what holds on any fault
pub on_any_err : {B E : Type 0} (r : Result (Unit {0}) E) → B → OnErr r B
on_any_err (Ok u) b = tt
on_any_err (Err e) b = b

pub kept_whole : (old : List ℕ) → Kept old old
kept_whole old = record { behind = []; same = sym (append-nil old) }
