-- What holds of files and their trees, whoever reads them. (X.680 and this profile's rules on files.)
use Rattle.std.specs.Prelude.{◌≡◌, List, [], ◌∷◌}
use Rattle.acn_index.specs.declared.sources.Sources.{Sources}
use Rattle.acn_sources.specs.Files.{AreSources, IsFirstFault}
use Rattle.acn_sources.specs.declared.fault.SourcesFault.{SourcesFault}
use Rattle.acn_sources.specs.declared.sources.File.{File}

-- files that hold the same: as many, each of the same kind and with the same bytes
abbrev pub AreAlike : List File → List File → Type 0
AreAlike [] [] = Unit {0}
AreAlike (f ∷ files) (g ∷ others) = ((f.kind ≡ g.kind) × (f.bytes.now ≡ g.bytes.now)) × AreAlike files others
AreAlike [] (g ∷ others) = ⊥
AreAlike (f ∷ files) [] = ⊥

-- files that hold the same have the same trees
abbrev pub OneSources : Type 0
OneSources = (files others : List File) (s t : Sources) → AreAlike files others → AreSources files s → AreSources others t → s ≡ t

-- where a file has a fault, not all of files that hold the same have a tree
abbrev pub FaultsHaveNoTrees : Type 0
FaultsHaveNoTrees = (files others : List File) (e : SourcesFault) (t : Sources) → AreAlike files others → IsFirstFault files e → AreSources others t → ⊥
