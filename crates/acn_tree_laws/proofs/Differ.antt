-- Names in one place differ in a sound world: those of components, of alternatives, and of fields between braces.
use Rattle.std.proofs.Common.{◌≡◌, ℕ, ◌<◌, nat_lt, true, List, [], ◌∷◌, ◌++◌, length, Option, Some, None, refl, sym, ap, ◌∙◌, arith}
use Rattle.std.specs.List.{AllByRecursion}
use Rattle.std.proofs.lemmas.Bool.Decides.{nat_tests}
use Rattle.acn_acn_syntax.specs.Mirror as acn
use Rattle.acn_asn_syntax.specs.Mirror.{AsnType, AsnBase, boolean, null, integer, enumerated, octet_string, bit_string, ia5_string, sequence, sequence_of, sequence_size, choice, reference, Components, no_components, and_component, component_list, Alternatives, no_alternatives, and_alternative, alternative_list}
use Rattle.acn_grammar.specs.Asks.{same_name}
use Rattle.acn_grammar.specs.Leaves.{all_differ}
use Rattle.acn_index.specs.Chains.{base_part}
use Rattle.acn_index.specs.World.{World}
use Rattle.acn_item_laws.specs.Laws.{NoTypeRepeatsAName, BaseStands, in_text, own}
use Rattle.acn_item_laws.proofs.Lists.{append_left, append_right}
use Rattle.acn_item_laws.proofs.Once.{base_repeats_none}
use Rattle.acn_leaf_laws.proofs.Repeats.{differ_behind}
use Rattle.acn_made_laws.specs.Laws.{names_inside, has_some}
use Rattle.acn_names.specs.Standing.{Stands}
use Rattle.acn_num.specs.Names.{Name}
use Rattle.acn_reasons.specs.Braced.{component_names, alternative_names}
use Rattle.acn_sites.specs.Sites.{Placed, base_of, below}
use Rattle.acn_world.specs.Faults.{IsSound}
use Rattle.acn_world.specs.Repeated.{again, repeated, twice, twice_base, twice_components, twice_alternatives}
use Rattle.acn_tree_laws.specs.Laws.{ChoicesAreListed}
use Rattle.acn_tree_laws.proofs.Braces.{AreFieldsOf, both_empty}
use Rattle.acn_tree_laws.proofs.Kept.{IsFit}

components_once : (seen : List Name) (cs : Components) → twice_components seen cs ≡ [] → repeated seen (component_names (component_list cs)) ≡ []
unfolding twice_components repeated
components_once seen no_components h = refl
components_once seen (and_component name t r more) h =
    both_empty (again name seen) (repeated (seen ++ name ∷ []) (component_names (component_list more)))
    (append_left (again name seen) (twice t) (append_left (again name seen ++ twice t) (twice_components (seen ++ name ∷ []) more) h))
    (components_once (seen ++ name ∷ []) more (append_right (again name seen ++ twice t) (twice_components (seen ++ name ∷ []) more) h))

alternatives_once : (seen : List Name) (all : Alternatives) → twice_alternatives seen all ≡ [] → repeated seen (alternative_names (alternative_list all)) ≡ []
unfolding twice_alternatives repeated
alternatives_once seen no_alternatives h = refl
alternatives_once seen (and_alternative name t more) h =
    both_empty (again name seen) (repeated (seen ++ name ∷ []) (alternative_names (alternative_list more)))
    (append_left (again name seen) (twice t) (append_left (again name seen ++ twice t) (twice_alternatives (seen ++ name ∷ []) more) h))
    (alternatives_once (seen ++ name ∷ []) more (append_right (again name seen ++ twice t) (twice_alternatives (seen ++ name ∷ []) more) h))

components_differ : (cs : Components) → twice_base (sequence cs) ≡ [] → all_differ same_name (component_names (component_list cs)) ≡ true
unfolding twice_base
components_differ cs h = differ_behind [] (component_names (component_list cs)) (components_once [] cs h)

alternatives_differ : (all : Alternatives) → twice_base (choice all) ≡ [] → all_differ same_name (alternative_names (alternative_list all)) ≡ true
unfolding twice_base
alternatives_differ all h = differ_behind [] (alternative_names (alternative_list all)) (alternatives_once [] all h)

positive : (n : ℕ) → 0 < n → nat_lt 0 n ≡ true
positive n h = grind (arith, nat_tests)

module _ (w : World) (sound : IsSound w) (once : NoTypeRepeatsAName) where
  base_once : (k : ℕ) (t : AsnType) (b : AsnBase) → Stands w k t → base_part t ≡ b → twice_base b ≡ []
  base_once k t b s e = ap twice_base (sym e) ∙ base_repeats_none t (once w k t sound s)

  differ_in : (k : ℕ) (b : AsnBase) (o : Option (List acn.Field)) → BaseStands w b → AreFieldsOf w k o → all_differ same_name (names_inside b o) ≡ true
  differ_in k (sequence cs) (Some fs) s h = h.differ
  differ_in k (sequence cs) None (in_text j t s e) h = components_differ cs (base_once j t (sequence cs) s e)
  differ_in k (sequence cs) None (own e) h = cc
  differ_in k (choice more) o (in_text j t s e) h = alternatives_differ more (base_once j t (choice more) s e)
  differ_in k (choice more) o (own e) h = cc
  differ_in k boolean o s h = refl
  differ_in k null o s h = refl
  differ_in k (integer ns) o s h = refl
  differ_in k (enumerated items) o s h = refl
  differ_in k octet_string o s h = refl
  differ_in k bit_string o s h = refl
  differ_in k ia5_string o s h = refl
  differ_in k (sequence_of t) o s h = refl
  differ_in k (sequence_size c t) o s h = refl
  differ_in k (reference from name) o s h = refl

  module _ (listed : ChoicesAreListed w) where
    some_in : (b : AsnBase) → BaseStands w b → has_some b ≡ true
    some_in (choice more) (in_text j t s e) = positive (length (alternative_list more)) (listed j t more s e)
    some_in (choice more) (own e) = cc
    some_in (sequence cs) s = refl
    some_in boolean s = refl
    some_in null s = refl
    some_in (integer ns) s = refl
    some_in (enumerated items) s = refl
    some_in octet_string s = refl
    some_in bit_string s = refl
    some_in ia5_string s = refl
    some_in (sequence_of t) s = refl
    some_in (sequence_size c t) s = refl
    some_in (reference from name) s = refl

    pub all_differ_inside : (ps : List Placed) → AllByRecursion (λ (p : Placed). BaseStands w (base_of p.site)) ps → AllByRecursion (λ (p : Placed). IsFit w p.site) ps
        → AllByRecursion (λ (p : Placed). (all_differ same_name (names_inside (base_of p.site) (below w p.site).braces) ≡ true) × (has_some (base_of p.site) ≡ true)) ps
    all_differ_inside [] s h = tt
    all_differ_inside (p ∷ ps) s h = ((differ_in (below w p.site).reader (base_of p.site) (below w p.site).braces s.0 h.0.1, some_in (base_of p.site) s.0), all_differ_inside ps s.1 h.1)
