-- Laws on what stands first in the text.
use Rattle.std.specs.Prelude.{◌≡◌, true, false, List, [], ◌∷◌, ◌++◌, Option, Some, None, flat_map, filter_map}
use Rattle.std.specs.List.{enumerate_from, AllByRecursion}
use Rattle.std.specs.Ordering.{nat_cmp, is_lt}
use Rattle.std.specs.Cmp.Lexicographic.{slice_cmp}
use Rattle.acn_index.specs.World.{World}
use Rattle.acn_reasons.specs.Arguments.{own_arguments}
use Rattle.acn_reasons.specs.Paths.{paths_in, argument_fault, path_fault, kinds_with_paths, bad_path}
use Rattle.acn_reasons.specs.declared.paths.PathFault.{PathFault}
use Rattle.acn_sites.specs.Attributes.{Given, nearest, place_of, scope_of}
use Rattle.acn_sites.specs.Places.{Place, is_before}
use Rattle.acn_sites.specs.Sites.{Site}

-- ---- the order of the text

-- A place stands before another as a word does in a dictionary.
abbrev pub PlacesStandAsWords : Type 0
PlacesStandAsWords = (p q : Place) → is_before p q ≡ is_lt (slice_cmp nat_cmp p q)

-- ---- the first of what was found

-- it is one of them, before all that were found earlier, and none that was found later stands before it
pub record IsEarliestOf {A : Type 0} (found : List (Place × A)) (x : Place × A) : Type 0 where
  pub earlier : List (Place × A)
  pub later : List (Place × A)
  pub there : found ≡ earlier ++ x ∷ later
  pub first : AllByRecursion (λ (y : Place × A). is_before x.0 y.0 ≡ true) earlier
  pub not_behind : AllByRecursion (λ (y : Place × A). is_before y.0 x.0 ≡ false) later

-- what was found at the place that stands first; none exactly where nothing was found
abbrev pub IsEarliest : {A : Type 0} → List (Place × A) → Option A → Type 0
IsEarliest found None = found ≡ []
IsEarliest found (Some f) = (at : Place) × IsEarliestOf found (at, f)

-- all faults of the paths of an attribute
abbrev pub faults_in : World → Site → Option Given → List (Place × PathFault)
faults_in w s None = []
faults_in w s (Some g) = filter_map (path_fault w (place_of s g) (scope_of w s g)) (enumerate_from 0 (paths_in g.attr))

-- all faults of the arguments of a site and of its nearest attributes that have paths
abbrev pub path_faults : World → Site → List (Place × PathFault)
path_faults w s = filter_map (argument_fault w s) (enumerate_from 0 (own_arguments w s)) ++ flat_map (λ k. faults_in w s (nearest k s)) kinds_with_paths

abbrev pub BadPathIsTheFirst : Type 0
BadPathIsTheFirst = (w : World) (s : Site) → IsEarliest (path_faults w s) (bad_path w s)
