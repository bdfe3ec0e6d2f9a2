-- Each node of a made tree stands for a site.
use Rattle.std.proofs.Common.{◌≡◌, ℕ, zero, suc, ◌+◌, true, false, true≢false, List, [], ◌∷◌, ◌++◌, length, map, filter_map, flat_map, Option, Some, None, option_map, option_to_list, append-nil, refl, sym, ap, subst, ◌∙◌, arith}
use Rattle.std.specs.List.{AllZip, cons_option}
use Rattle.acn_asn_syntax.specs.Mirror.{AsnBase, AsnType, component_list, alternative_list, boolean, null, integer, enumerated, octet_string, bit_string, ia5_string, sequence, sequence_of, sequence_size, choice, reference}
use Rattle.acn_grammar.specs.View.{OneField, fields_of, OneAlternative, alternatives_of}
use Rattle.acn_grammar.specs.Walk.{Stand, Role, root_node, component_role, an_inserted, alternative_role, an_element, a_content, nodes, nodes_of, form_nodes, field_nodes, alternative_nodes}
use Rattle.acn_grammar.specs.declared.node.ChoiceRule.{ChoiceRule}
use Rattle.acn_grammar.specs.declared.node.Sizing.{Sizing}
use Rattle.acn_home_laws.specs.Laws.{paths}
use Rattle.acn_homes.specs.Homes.{number, at_home}
use Rattle.acn_index.specs.World.{World}
use Rattle.acn_index.specs.Chains.{ChainOf}
use Rattle.acn_index.specs.declared.sources.TypeId.{TypeId}
use Rattle.acn_made.specs.Conditions.{tests_at, presence_of}
use Rattle.acn_made.specs.Made.{made, field_with, field_at, alternative_with, alternative_at, told_by, first_at, octets_at, form_at}
use Rattle.acn_made.specs.Named.{Slots, determinant_by}
use Rattle.acn_made.specs.Sized.{sizing_at}
use Rattle.acn_made.specs.Texts.{default_text}
use Rattle.acn_made_laws.proofs.BelowSites.{is_field, is_alternative, FieldsFrom, AlternativesFrom, fields_in, alternatives_in, element_there}
use Rattle.acn_made_laws.proofs.Depth.{FineAll, split_all, one_longer, too_long, below_is, braces_fit}
use Rattle.acn_made_laws.proofs.Fine.{FineSite, all_fine}
use Rattle.acn_made_laws.specs.Laws.{WithoutReason}
use Rattle.acn_made_laws.specs.Standing.{StandsFor, IsRole}
use Rattle.acn_num.specs.declared.limits.TheConstants.{MOST_STEPS}
use Rattle.acn_reasons.specs.Braced.{unless_fit}
use Rattle.acn_reasons.specs.Classes.{class_of_base}
use Rattle.acn_sites.specs.Sites.{Site, Position, root, part, inserted, alternative, element, content, Placed, base_of, below, in_sequence, content_of, content_site, element_site, inside_of, sites_in, sites_below, sites, sites_of, root_of, root_site, mark}
use Rattle.acn_sites.specs.declared.attributes.AttrKind.TheVariants as kind
use Rattle.acn_slots.specs.Slots.{no_scope}

-- ---- lists item by item

zip_append : {A B : Type 0} (R : A → B → Type 0) (a b : List A) (c d : List B) → AllZip R a c → AllZip R b d → AllZip R (a ++ b) (c ++ d)
zip_append R [] b [] d h k = k
zip_append R [] b (y ∷ c) d h k = absurd h
zip_append R (x ∷ a) b [] d h k = absurd h
zip_append R (x ∷ a) b (y ∷ c) d h k = (h.0, zip_append R a b c d h.1 k)

module _ (w : World) (ss : Slots) where
  abbrev pub Stands : Stand → Placed → Type 0
  Stands at p = StandsFor w ss at p.site

  abbrev pub StandAll : List Stand → List Placed → Type 0
  StandAll nodes ps = AllZip Stands nodes ps

  -- what holds of each site that is so many steps from the deepest
  abbrev Down : ℕ → Type 0
  Down n = (above : List ℕ) (x : Site) (role : Role) (around : List ℕ) → IsRole w ss x role x.position → FineAll w (sites n w above x) → length x.path + n ≡ 65 → StandAll (nodes role x.path around (made n w ss x)) (sites n w above x)

  -- ---- SEQUENCE

  field_stands : (n : ℕ) → Down n → (above path around : List ℕ) (k : ℕ) (x : Site) (rest : List OneField) (more : List Placed) (p : Position) → x.position ≡ p → is_field p ≡ true → x.path ≡ path ++ k ∷ [] → suc (length path) + n ≡ 65
      → FineAll w (sites n w above x) → StandAll (field_nodes path around (suc k) (fields_of rest)) more → StandAll (field_nodes path around k (fields_of (cons_option (field_with w ss x (made n w ss x) p) rest))) (sites n w above x ++ more)
  field_stands n down above path around k x rest more (root owner name) e i at l f h = absurd (true≢false (sym i))
  field_stands n down above path around k x rest more (part name r) e i at l f h =
      let role : Role = component_role name (presence_of r (tests_at w ss x)) (default_text r) (number ss x.path) in
      zip_append Stands (nodes role (path ++ k ∷ []) around (made n w ss x)) (field_nodes path around (suc k) (fields_of rest)) (sites n w above x) more
      (subst (λ (q : List ℕ). StandAll (nodes role q around (made n w ss x)) (sites n w above x)) at (down above x role around (subst (IsRole w ss x role) (sym e) refl) f (one_longer path k n x.path at l))) h
  field_stands n down above path around k x rest more (inserted name r) e i at l f h =
      let role : Role = an_inserted name (number ss x.path) in
      zip_append Stands (nodes role (path ++ k ∷ []) around (made n w ss x)) (field_nodes path around (suc k) (fields_of rest)) (sites n w above x) more
      (subst (λ (q : List ℕ). StandAll (nodes role q around (made n w ss x)) (sites n w above x)) at (down above x role around (subst (IsRole w ss x role) (sym e) refl) f (one_longer path k n x.path at l))) h
  field_stands n down above path around k x rest more (alternative name) e i at l f h = absurd (true≢false (sym i))
  field_stands n down above path around k x rest more element e i at l f h = absurd (true≢false (sym i))
  field_stands n down above path around k x rest more content e i at l f h = absurd (true≢false (sym i))

  fields_stand : (n : ℕ) → Down n → (above path around : List ℕ) (k : ℕ) (xs : List Site) → FieldsFrom path k xs → suc (length path) + n ≡ 65
      → FineAll w (flat_map (sites n w above) xs) → StandAll (field_nodes path around k (fields_of (filter_map (field_at w ss (made n w ss)) xs))) (flat_map (sites n w above) xs)
  fields_stand n down above path around k [] h l f = tt
  fields_stand n down above path around k (x ∷ xs) h l f =
      let s = split_all (λ (p : Placed). FineSite w p.site) (sites n w above x) (flat_map (sites n w above) xs) f in
      field_stands n down above path around k x (filter_map (field_at w ss (made n w ss)) xs) (flat_map (sites n w above) xs) x.position refl h.1 h.0 l s.0
      (fields_stand n down above path around (suc k) xs h.2 l s.1)

  -- ---- CHOICE

  alternative_stands : (n : ℕ) → Down n → (rule : ChoiceRule) (above path around : List ℕ) (k : ℕ) (x : Site) (rest : List OneAlternative) (more : List Placed) (p : Position) → x.position ≡ p → is_alternative p ≡ true → x.path ≡ path ++ k ∷ []
      → suc (length path) + n ≡ 65 → FineAll w (sites n w above x) → StandAll (alternative_nodes rule path around (suc k) (alternatives_of rest)) more
      → StandAll (alternative_nodes rule path around k (alternatives_of (cons_option (alternative_with w ss x (made n w ss x) p) rest))) (sites n w above x ++ more)
  alternative_stands n down rule above path around k x rest more (root owner name) e i at l f h = absurd (true≢false (sym i))
  alternative_stands n down rule above path around k x rest more (part name r) e i at l f h = absurd (true≢false (sym i))
  alternative_stands n down rule above path around k x rest more (inserted name r) e i at l f h = absurd (true≢false (sym i))
  alternative_stands n down rule above path around k x rest more (alternative name) e i at l f h =
      let role : Role = alternative_role name (tests_at w ss x) rule in
      zip_append Stands (nodes role (path ++ k ∷ []) around (made n w ss x)) (alternative_nodes rule path around (suc k) (alternatives_of rest)) (sites n w above x) more
      (subst (λ (q : List ℕ). StandAll (nodes role q around (made n w ss x)) (sites n w above x)) at (down above x role around (subst (IsRole w ss x role) (sym e) (rule, refl)) f (one_longer path k n x.path at l))) h
  alternative_stands n down rule above path around k x rest more element e i at l f h = absurd (true≢false (sym i))
  alternative_stands n down rule above path around k x rest more content e i at l f h = absurd (true≢false (sym i))

  alternatives_stand : (n : ℕ) → Down n → (rule : ChoiceRule) (above path around : List ℕ) (k : ℕ) (xs : List Site) → AlternativesFrom path k xs → suc (length path) + n ≡ 65
      → FineAll w (flat_map (sites n w above) xs) → StandAll (alternative_nodes rule path around k (alternatives_of (filter_map (alternative_at w ss (made n w ss)) xs))) (flat_map (sites n w above) xs)
  alternatives_stand n down rule above path around k [] h l f = tt
  alternatives_stand n down rule above path around k (x ∷ xs) h l f =
      let s = split_all (λ (p : Placed). FineSite w p.site) (sites n w above x) (flat_map (sites n w above) xs) f in
      alternative_stands n down rule above path around k x (filter_map (alternative_at w ss (made n w ss)) xs) (flat_map (sites n w above) xs) x.position refl h.1 h.0 l s.0
      (alternatives_stand n down rule above path around (suc k) xs h.2 l s.1)

  -- ---- one site below

  one_stands : (n : ℕ) → Down n → (above path around : List ℕ) (x : Site) (role : Role) → IsRole w ss x role x.position → x.path ≡ path ++ 0 ∷ [] → suc (length path) + n ≡ 65
      → FineAll w (sites n w above x ++ []) → StandAll (nodes role (path ++ 0 ∷ []) around (made n w ss x)) (sites n w above x ++ [])
  one_stands n down above path around x role r at l f =
      subst (StandAll (nodes role (path ++ 0 ∷ []) around (made n w ss x))) (sym (append-nil (sites n w above x)))
      (subst (λ (q : List ℕ). StandAll (nodes role q around (made n w ss x)) (sites n w above x)) at (down above x role around r (subst (FineAll w) (append-nil (sites n w above x)) f) (one_longer path 0 n x.path at l)))

  -- the element of a list
  element_stands : (n : ℕ) → Down n → (above around : List ℕ) (s x : Site) (xs : List Site) → xs ≡ x ∷ [] → x.path ≡ s.path ++ 0 ∷ [] → x.position ≡ element → suc (length s.path) + n ≡ 65
      → FineAll w (flat_map (sites n w above) xs) → StandAll (nodes an_element (s.path ++ 0 ∷ []) around (first_at (made n w ss) s xs)) (flat_map (sites n w above) xs)
  element_stands n down above around s x xs e at p l =
      subst (λ (zs : List Site). FineAll w (flat_map (sites n w above) zs) → StandAll (nodes an_element (s.path ++ 0 ∷ []) around (first_at (made n w ss) s zs)) (flat_map (sites n w above) zs)) (sym e)
      (λ f. one_stands n down above s.path around x an_element (subst (IsRole w ss x an_element) (sym p) refl) at l f)

  -- what octets contain
  content_stands : (n : ℕ) → Down n → (above around : List ℕ) (s : Site) (sizing : Sizing) (o : Option (ℕ × AsnType)) (xs : List Site) → xs ≡ map (content_site w s) (option_to_list o) → suc (length s.path) + n ≡ 65
      → FineAll w (flat_map (sites n w above) xs) → StandAll (form_nodes s.path around (octets_at sizing (made n w ss) xs)) (flat_map (sites n w above) xs)
  content_stands n down above around s sizing None xs e l =
      subst (λ (zs : List Site). FineAll w (flat_map (sites n w above) zs) → StandAll (form_nodes s.path around (octets_at sizing (made n w ss) zs)) (flat_map (sites n w above) zs)) (sym e) (λ f. tt)
  content_stands n down above around s sizing (Some t) xs e l =
      subst (λ (zs : List Site). FineAll w (flat_map (sites n w above) zs) → StandAll (form_nodes s.path around (octets_at sizing (made n w ss) zs)) (flat_map (sites n w above) zs)) (sym e)
      (λ f. one_stands n down above s.path around (content_site w s t) a_content refl refl l f)

  -- nothing
  none_stands : (n : ℕ) (above : List ℕ) (xs : List Site) → xs ≡ [] → StandAll [] (flat_map (sites n w above) xs)
  none_stands n above xs e = subst (λ (zs : List Site). StandAll [] (flat_map (sites n w above) zs)) (sym e) tt

  -- ---- all types

  form_stands : (n : ℕ) → Down n → (above around : List ℕ) (s : Site) (b : AsnBase) → sites_below w s ≡ sites_in w s (inside_of b) → unless_fit b (below w s).braces ≡ false → suc (length s.path) + n ≡ 65
      → FineAll w (flat_map (sites n w above) (sites_below w s)) → StandAll (form_nodes s.path around (form_at w ss (made n w ss) s (class_of_base b))) (flat_map (sites n w above) (sites_below w s))
  form_stands n down above around s boolean e h l f = none_stands n above (sites_below w s) e
  form_stands n down above around s null e h l f = none_stands n above (sites_below w s) e
  form_stands n down above around s (integer ns) e h l f = none_stands n above (sites_below w s) e
  form_stands n down above around s (enumerated items) e h l f = none_stands n above (sites_below w s) e
  form_stands n down above around s octet_string e h l f = content_stands n down above around s (sizing_at w ss s) (content_of s.chain) (sites_below w s) e l f
  form_stands n down above around s bit_string e h l f = none_stands n above (sites_below w s) e
  form_stands n down above around s ia5_string e h l f = none_stands n above (sites_below w s) e
  form_stands n down above around s (sequence cs) e h l f =
      fields_stand n down above s.path (at_home ss s.path ++ around) 0 (sites_below w s)
      (subst (FieldsFrom s.path 0) (sym e) (fields_in w (in_sequence (component_list cs) (below w s)) cs (below w s).braces h)) l f
  form_stands n down above around s (sequence_of t) e h l f =
      (let p = element_there w s t (below w s).braces in element_stands n down above around s (element_site w s t (below w s) (below w s).braces) (sites_below w s) e p.0 p.1 l f)
  form_stands n down above around s (sequence_size c t) e h l f =
      (let p = element_there w s t (below w s).braces in element_stands n down above around s (element_site w s t (below w s) (below w s).braces) (sites_below w s) e p.0 p.1 l f)
  form_stands n down above around s (choice more) e h l f =
      alternatives_stand n down (told_by (determinant_by kind.Determinant w ss s) (filter_map (alternative_at w ss (made n w ss)) (sites_below w s))) above s.path around 0 (sites_below w s)
      (subst (AlternativesFrom s.path 0) (sym e) (alternatives_in w (below w s) 0 (alternative_list more))) l f
  form_stands n down above around s (reference from name) e h l f = none_stands n above (sites_below w s) e

  stands : (n : ℕ) → Down n
  unfolding made sites
  stands zero above x role around r f l = absurd (too_long (length x.path) zero f.0.shallow l refl)
  stands (suc n) above x role around r f l = (
    record { path = refl; role = r; align = refl; form = (n, refl) },
    form_stands n (stands n) (above ++ mark x.position) around x (base_of x) (below_is w x) (braces_fit w x f.0.braces) (deeper l) f.1,
  )
    where
      deeper : length x.path + suc n ≡ 65 → suc (length x.path) + n ≡ 65
      deeper h = omega (arith, h)

-- ---- the whole tree

root_there : (w : World) (of : TypeId) (s : Site) (o : Option ChainOf) → option_map (root_of w of) o ≡ Some s → (s.path ≡ []) × ((ss : Slots) → IsRole w ss s root_node s.position) × (s.scope ≡ no_scope)
root_there w of s None h = absurd (cc h)
root_there w of s (Some c) h = subst (λ (x : Site). (x.path ≡ []) × ((ss : Slots) → IsRole w ss x root_node x.position) × (x.scope ≡ no_scope)) (same_some (root_of w of c) s h) (refl, λ ss. refl, refl)
  where
    same_some : (a b : Site) → Some a ≡ Some b → a ≡ b
    same_some a b h = cc h

pub root_is : (w : World) (of : TypeId) (s : Site) → root_site w of ≡ Some s → (s.path ≡ []) × ((ss : Slots) → IsRole w ss s root_node s.position) × (s.scope ≡ no_scope)
unfolding root_site
root_is w of s h = root_there w of s _ h

pub all_sites : (w : World) (of : TypeId) (s : Site) → root_site w of ≡ Some s → sites_of w of ≡ sites 65 w [] s
unfolding sites_of
all_sites w of s e = ap (λ (o : Option Site). flat_map (sites 65 w []) (option_to_list o)) e ∙ append-nil (sites 65 w [] s)

pub nodes_stand : (w : World) (of : TypeId) (s : Site) → WithoutReason w of s → (ss : Slots) → StandAll w ss (nodes_of (made (MOST_STEPS + 1) w ss s)) (sites_of w of)
nodes_stand w of s sound ss =
    let r = root_is w of s sound.0 in
    let e = all_sites w of s sound.0 in
    let f = subst (FineAll w) e (all_fine w 1 (sites_of w of) sound.1) in
    subst (StandAll w ss (nodes_of (made 65 w ss s))) (sym e)
    (subst (λ (q : List ℕ). StandAll w ss (nodes root_node q [] (made 65 w ss s)) (sites 65 w [] s)) r.0
    (stands w ss 65 [] s root_node [] (r.1 ss) f (ap (λ (q : List ℕ). length q + 65) r.0)))

same_paths : (w : World) (ss : Slots) (xs : List Stand) (ps : List Placed) → StandAll w ss xs ps → paths xs ≡ map (λ (p : Placed). p.site.path) ps
same_paths w ss [] [] h = refl
same_paths w ss [] (p ∷ ps) h = absurd h
same_paths w ss (x ∷ xs) [] h = absurd h
same_paths w ss (x ∷ xs) (p ∷ ps) h = ap (λ (q : List ℕ). q ∷ paths xs) h.0.path ∙ ap (λ (qs : List (List ℕ)). p.site.path ∷ qs) (same_paths w ss xs ps h.1)

pub paths_stand : (w : World) (of : TypeId) (s : Site) → WithoutReason w of s → (ss : Slots) → paths (nodes_of (made (MOST_STEPS + 1) w ss s)) ≡ map (λ (p : Placed). p.site.path) (sites_of w of)
paths_stand w of s sound ss = same_paths w ss (nodes_of (made (MOST_STEPS + 1) w ss s)) (sites_of w of) (nodes_stand w of s sound ss)
