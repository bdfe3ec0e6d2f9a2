-- The line of a summary. (This program's own.)
use Rattle.std.specs.Prelude.{ℕ, List, [], ◌∷◌, codes}
use Rattle.std.specs.Fmt.{decimal}
use Rattle.std.specs.List.{concat}
use Rattle.acn_work.specs.declared.summary.Summary.{Summary}

abbrev pub summary_line : Summary → List ℕ
summary_line s = concat (codes "made " ∷ decimal s.made ∷ codes " packed " ∷ decimal s.packed ∷ codes " refused " ∷ decimal s.refused ∷ codes " bits " ∷ decimal s.bits ∷ codes "\n" ∷ [])
