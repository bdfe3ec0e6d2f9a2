-- Lists of at most one.
use Rattle.std.proofs.Common.{Bool, true, false, List, [], ◌∷◌}
use Rattle.acn_set_elements.specs.Stands.{at_most_one}

-- at most one, with another one where `found`
abbrev pub with_one : {A : Type 0} → Bool → List A → Bool
with_one false xs = at_most_one xs
with_one true [] = true
with_one true (x ∷ xs) = false
