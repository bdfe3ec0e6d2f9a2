-- The trees of files are proper, and have no more tokens than a file may have.
use Rattle.std.proofs.Common.{◌≡◌, ℕ, suc, ◌<◌, ◌^◌, List, [], ◌∷◌, length, refl, sym, ap, ◌∙◌, arith}
use Rattle.acn_lex.specs.Lexeme.{Placed}
use Rattle.acn_graph.specs.Graph.{Among, here, there}
use Rattle.acn_asn_syntax.specs.Modules.{tokens_of, IsProper}
use Rattle.acn_asn_syntax.specs.declared.modules.AsnModules.{AsnModules}
use Rattle.acn_sources.specs.Files.{AreTrees}
use Rattle.acn_sources.specs.Kinds.{IsAsn}
use Rattle.acn_sources.specs.Reading.{unplaced}

length_unplaced : (ts : List Placed) → length (unplaced ts) ≡ length ts
length_unplaced [] = refl
length_unplaced (t ∷ ts) = ap suc (length_unplaced ts)

proper_file : (bytes : List ℕ) (t : AsnModules) → IsAsn bytes t → IsProper t × (length (tokens_of t) < 2 ^ 32)
proper_file bytes t is =
    let long : length (tokens_of t) ≡ length is.1 = sym (ap length is.4) ∙ length_unplaced is.1 in
    let all = is.2.1 in
    (is.0, omega arith)

pub files_proper : (bs : List (List ℕ)) (ts : List AsnModules) → AreTrees IsAsn bs ts → (t : AsnModules) → Among t ts → IsProper t × (length (tokens_of t) < 2 ^ 32)
files_proper bs [] are t i = absurd (elim i [ ])
files_proper [] (u ∷ ts) are t i = absurd are
files_proper (b ∷ bs) (u ∷ ts) are _ here = proper_file b u are.0
files_proper (b ∷ bs) (u ∷ ts) are t (there i) = files_proper bs ts are.1 t i
