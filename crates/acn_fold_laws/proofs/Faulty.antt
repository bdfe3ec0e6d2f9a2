-- The fault of a path that is told is the first of all that a site has.
use Rattle.std.proofs.Common.{◌≡◌, refl, sym, ap, subst, ◌∙◌, List, [], ◌∷◌, Option, Some, None}
use Rattle.std.specs.Prelude.{flat_map, filter_map}
use Rattle.std.specs.List.{enumerate_from}
use Rattle.acn_index.specs.World.{World}
use Rattle.acn_reasons.specs.Arguments.{own_arguments}
use Rattle.acn_reasons.specs.Paths.{paths_in, argument_fault, path_fault, sooner_in, sooner_of, kinds_with_paths, bad_path}
use Rattle.acn_reasons.specs.declared.paths.PathFault.{PathFault}
use Rattle.acn_sites.specs.Attributes.{Given, nearest, place_of, scope_of}
use Rattle.acn_sites.specs.Places.{Place, earliest_from, found_there}
use Rattle.acn_sites.specs.Sites.{Site}
use Rattle.acn_sites.specs.declared.attributes.AttrKind.{AttrKind}
use Rattle.acn_fold_laws.specs.Places.{IsEarliest, faults_in, path_faults}
use Rattle.acn_fold_laws.proofs.Texts.{first_of, first_is_earliest, first_append, from_found}

abbrev Fault : Type 0
Fault = Place × PathFault

sooner_in_is : (w : World) (s : Site) (best : Option Fault) (g : Option Given) → sooner_in w s best g ≡ first_of best (faults_in w s g)
sooner_in_is w s best None = refl
sooner_in_is w s best (Some g) = from_found (path_fault w (place_of s g) (scope_of w s g)) best (enumerate_from 0 (paths_in g.attr))

sooner_of_is : (w : World) (s : Site) (best : Option Fault) (ks : List AttrKind) → sooner_of w s best ks ≡ first_of best (flat_map (λ k. faults_in w s (nearest k s)) ks)
sooner_of_is w s best [] = refl
sooner_of_is w s best (k ∷ ks) =
    sooner_of_is w s (sooner_in w s best (nearest k s)) ks
    ∙ (ap (λ (o : Option Fault). first_of o (flat_map (λ k. faults_in w s (nearest k s)) ks)) (sooner_in_is w s best (nearest k s))
    ∙ first_append best (faults_in w s (nearest k s)) (flat_map (λ k. faults_in w s (nearest k s)) ks))

first_fault : (w : World) (s : Site) → sooner_of w s (earliest_from (argument_fault w s) None (enumerate_from 0 (own_arguments w s))) kinds_with_paths ≡ first_of None (path_faults w s)
first_fault w s =
    sooner_of_is w s (earliest_from (argument_fault w s) None (enumerate_from 0 (own_arguments w s))) kinds_with_paths
    ∙ (ap (λ (o : Option Fault). first_of o (flat_map (λ k. faults_in w s (nearest k s)) kinds_with_paths)) (from_found (argument_fault w s) None (enumerate_from 0 (own_arguments w s)))
    ∙ first_append None (filter_map (argument_fault w s) (enumerate_from 0 (own_arguments w s))) (flat_map (λ k. faults_in w s (nearest k s)) kinds_with_paths))

pub bad_path_first : (w : World) (s : Site) → IsEarliest (path_faults w s) (bad_path w s)
unfolding bad_path
bad_path_first w s = subst (λ (o : Option Fault). IsEarliest (path_faults w s) (found_there o)) (sym (first_fault w s)) (first_is_earliest (path_faults w s))
