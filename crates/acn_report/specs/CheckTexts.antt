-- The line of each fault of the checker: the place, the name of the fault, and what is kept beside the place. (This program's own.)
use Rattle.std.specs.Prelude.{ℕ, ℤ, List, [], ◌∷◌, ◌++◌, map, codes}
use Rattle.std.specs.Fmt.{decimal, signed_decimal}
use Rattle.std.specs.List.{concat}
use Rattle.acn_grammar.specs.declared.check_fault.CheckFault.{CheckFault}
use Rattle.acn_grammar.specs.declared.check_fault.CheckFault.TheVariants.{Forward, DetKind, DetWidth, Overlap, AbsentUnclear, Unused, NoItem, MixedChoice, TooLong, TooManyOpen, TooManyConditions, TooManyValues, TerminatorAmbiguous, NoMemory}
use Rattle.acn_tree.specs.declared.tree.Tree.{Tree}
use Rattle.acn_report.specs.Names.{path_text, alternative_text}
use Rattle.acn_report.specs.Slots.{slot_text}
use Rattle.acn_report.specs.Texts.{said, refused_at}

-- a slot and its number
abbrev pub pair_text : Tree → ℕ × ℤ → List ℕ
pair_text tree pair = concat (slot_text tree pair.0 ∷ codes "=" ∷ signed_decimal pair.1 ∷ [])

abbrev pub spaced_pair : Tree → ℕ × ℤ → List ℕ
spaced_pair tree pair = codes " " ++ pair_text tree pair

-- two alternatives of the CHOICE at a path, and the numbers under which both hold
abbrev pub overlap_line : Tree → List ℕ → (i j : ℕ) → List (ℕ × ℤ) → List ℕ
overlap_line tree at i j pairs = refused_at (path_text tree at) (said (codes "Overlap") (alternative_text tree at i ∷ alternative_text tree at j ∷ map (pair_text tree) pairs))

abbrev pub no_memory_line : List ℕ
no_memory_line = codes "acn: out of memory\n"

-- the limits of whole trees stand at the type, the faults of a determinant at its field
abbrev pub check_line : Tree → CheckFault → List ℕ
check_line tree (Forward user det) = refused_at (path_text tree user) (said (codes "Forward") (path_text tree det ∷ []))
check_line tree (DetKind user det) = refused_at (path_text tree user) (said (codes "DetKind") (path_text tree det ∷ []))
check_line tree (DetWidth det) = refused_at (path_text tree det) (said (codes "DetWidth") [])
check_line tree (Overlap at i j pairs) = overlap_line tree at i j pairs
check_line tree (AbsentUnclear at) = refused_at (path_text tree at) (said (codes "AbsentUnclear") [])
check_line tree (Unused det) = refused_at (path_text tree det) (said (codes "Unused") [])
check_line tree (NoItem at i) = refused_at (path_text tree at) (said (codes "NoItem") (alternative_text tree at i ∷ []))
check_line tree (MixedChoice at) = refused_at (path_text tree at) (said (codes "MixedChoice") [])
check_line tree (TooLong bits) = refused_at tree.name (said (codes "TooLong") (decimal bits ∷ []))
check_line tree (TooManyOpen at count) = refused_at (path_text tree at) (said (codes "TooManyOpen") (decimal count ∷ []))
check_line tree (TooManyConditions det count) = refused_at (path_text tree det) (said (codes "TooManyConditions") (decimal count ∷ []))
check_line tree (TooManyValues count) = refused_at tree.name (said (codes "TooManyValues") (decimal count ∷ []))
check_line tree (TerminatorAmbiguous at) = refused_at (path_text tree at) (said (codes "TerminatorAmbiguous") [])
check_line tree NoMemory = no_memory_line
