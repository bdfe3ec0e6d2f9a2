-- The names in one SEQUENCE or CHOICE that is made.
use Rattle.std.proofs.Common.{◌≡◌, ℕ, suc, ◌+◌, nat_lt, true, false, true≢false, ◌&&◌, List, [], ◌∷◌, length, map, filter_map, Option, Some, None, option_map, bytes_eq, refl, sym, ap, subst, ◌∙◌}
use Rattle.std.proofs.lemmas.List.{length-map}
use Rattle.std.specs.List.{enumerate_from, list_any, cons_option}
use Rattle.acn_acn_syntax.specs.Mirror as acn
use Rattle.acn_acn_syntax.specs.Mirror.{braces_list}
use Rattle.acn_asn_syntax.specs.Mirror.{AsnBase, Component, Components, component_list, Alternative, alternative_list, boolean, null, integer, enumerated, octet_string, bit_string, ia5_string, sequence, sequence_of, sequence_size, choice, reference}
use Rattle.acn_grammar.specs.Asks.{same_name}
use Rattle.acn_grammar.specs.Grammar.{Grammar}
use Rattle.acn_grammar.specs.Leaves.{all_differ}
use Rattle.acn_grammar.specs.Tree.{field_names, choice_rule_fine, form_fine}
use Rattle.acn_grammar.specs.View.{OneField, fields_of, OneAlternative, alternatives_of}
use Rattle.acn_grammar.specs.Walk.{Stand, conditions_of}
use Rattle.acn_grammar.specs.declared.node.Sizing.{Sizing}
use Rattle.acn_grammar.specs.declared.node.Test.{Test}
use Rattle.acn_home_laws.proofs.Onward.{true_both}
use Rattle.acn_index.specs.World.{World}
use Rattle.acn_made.specs.Made.{made, field_with, field_at, alternative_with, alternative_at, form_at, octets_at, told_by}
use Rattle.acn_made.specs.Named.{Slots, determinant_by}
use Rattle.acn_made.specs.Sized.{sizing_at}
use Rattle.acn_made_laws.proofs.BelowSites.{is_field, is_alternative, FieldsFrom, AlternativesFrom, fields_in, alternatives_in, found_some, same_bytes, Known, known_names, named_first, not_false}
use Rattle.acn_made_laws.proofs.Depth.{below_is, braces_fit}
use Rattle.acn_made_laws.proofs.Fine.{FineSite}
use Rattle.acn_made_laws.proofs.Used.{found_test}
use Rattle.acn_made_laws.specs.Laws.{is_ruled, is_outer, names_inside, has_some}
use Rattle.acn_made_laws.specs.Standing.{StandsFor}
use Rattle.acn_num.specs.Names.{Name}
use Rattle.acn_reasons.specs.Braced.{lists, component_names, alternative_names, unless_fit}
use Rattle.acn_reasons.specs.Classes.{class_of_base}
use Rattle.acn_sites.specs.Sites.{Site, Position, root, part, inserted, alternative, element, content, Below, base_of, below, in_sequence, field_site, alternative_site, inside_of, sites_in, sites_below}
use Rattle.acn_sites.specs.declared.attributes.AttrKind.TheVariants as kind
use Rattle.acn_slots.specs.Slots as slots
use Rattle.acn_slots.specs.Slots.{Field, component, component_named, numbered_field, bare_field, name_in_text}

-- the name that a site has in the one above it
abbrev label : Position → Name
label (root owner name) = []
label (part name rest) = name
label (inserted name kind) = name
label (alternative name) = name
label element = []
label content = []

abbrev labels : List Site → List Name
labels xs = map (λ (x : Site). label x.position) xs

-- ---- of sites

bare_labels : (w : World) (b : Below) (k : ℕ) (cs : List Component) → labels (map (field_site w b) (map bare_field (enumerate_from k cs))) ≡ component_names cs
bare_labels w b k [] = refl
bare_labels w b k (c ∷ cs) = ap (λ (ns : List Name). c.name ∷ ns) (bare_labels w b (k + 1) cs)

named_label : (w : World) (b : Below) (k : ℕ) (u : slots.Use) (o : Option Component) (c : Component) (name : Name) (more : List (ℕ × Field)) (names : List Name) → o ≡ Some c → c.name ≡ name → labels (map (field_site w b) more) ≡ names
    → labels (map (field_site w b) (cons_option (option_map (λ (x : Field). (k, x)) (option_map (λ (c : Component). component c u) o)) more)) ≡ name ∷ names
named_label w b k u o c name more names e n h =
    ap (λ (z : Option Component). labels (map (field_site w b) (cons_option (option_map (λ (x : Field). (k, x)) (option_map (λ (c : Component). component c u) z)) more))) e
    ∙ (ap (λ (z : Name). z ∷ labels (map (field_site w b) more)) n ∙ ap (λ (zs : List Name). name ∷ zs) h)

listed_labels : (w : World) (b : Below) (cs : List Component) (k : ℕ) (names : List Name) (fs : List acn.Field) → Known cs names → lists true names fs ≡ true → labels (map (field_site w b) (filter_map (numbered_field cs) (enumerate_from k fs))) ≡ map name_in_text fs
listed_labels w b cs k names [] known h = refl
listed_labels w b cs k names (acn.plain name arguments attributes bs ∷ fs) known h =
    let r = named_first names name (λ (more : List Name). lists true more fs) h in
    let m = subst (Known cs) r.2 known in
    let f = found_some (λ (c : Component). bytes_eq c.name name) cs (ap (λ (n : Name). list_any (λ (c : Component). bytes_eq c.name n) cs) (sym r.3) ∙ m.0) in
    named_label w b k (record { arguments = arguments; attributes = attributes; braces = braces_list bs }) (component_named cs name) f.0 name (filter_map (numbered_field cs) (enumerate_from (k + 1) fs)) (map name_in_text fs) f.1
    (same_bytes f.0.name name (found_test (λ (c : Component). bytes_eq c.name name) cs f.0 f.1)) (listed_labels w b cs (k + 1) r.1 fs m.1 r.4)
listed_labels w b cs k names (acn.inserted name kind attributes ∷ fs) known h = ap (λ (zs : List Name). name ∷ zs) (listed_labels w b cs (k + 1) names fs known h)
listed_labels w b cs k names (acn.number name n ∷ fs) known h = absurd (true≢false (sym h))

field_labels : (w : World) (b : Below) (cs : Components) (o : Option (List acn.Field)) → unless_fit (sequence cs) o ≡ false → labels (map (field_site w b) (slots.fields_of o (component_list cs))) ≡ names_inside (sequence cs) o
field_labels w b cs None h = bare_labels w b 0 (component_list cs)
field_labels w b cs (Some fs) h = listed_labels w b (component_list cs) 0 (component_names (component_list cs)) fs (known_names (component_list cs)) (not_false (lists true (component_names (component_list cs)) fs) h)

alternative_labels : (w : World) (b : Below) (k : ℕ) (more : List Alternative) → labels (map (alternative_site w b) (enumerate_from k more)) ≡ alternative_names more
alternative_labels w b k [] = refl
alternative_labels w b k (a ∷ more) = ap (λ (ns : List Name). a.name ∷ ns) (alternative_labels w b (k + 1) more)

-- ---- of nodes

module _ (w : World) (ss : Slots) (m : Site → Grammar) where
  field_name_is : (x : Site) (p : Position) (rest : List OneField) → is_field p ≡ true → field_names (fields_of (cons_option (field_with w ss x (m x) p) rest)) ≡ label p ∷ field_names (fields_of rest)
  field_name_is x (root owner name) rest h = absurd (true≢false (sym h))
  field_name_is x (part name r) rest h = refl
  field_name_is x (inserted name r) rest h = refl
  field_name_is x (alternative name) rest h = absurd (true≢false (sym h))
  field_name_is x element rest h = absurd (true≢false (sym h))
  field_name_is x content rest h = absurd (true≢false (sym h))

  fields_named : (path : List ℕ) (k : ℕ) (xs : List Site) → FieldsFrom path k xs → field_names (fields_of (filter_map (field_at w ss m) xs)) ≡ labels xs
  fields_named path k [] h = refl
  fields_named path k (x ∷ xs) h = field_name_is x x.position (filter_map (field_at w ss m) xs) h.1 ∙ ap (λ (ns : List Name). label x.position ∷ ns) (fields_named path (suc k) xs h.2)

  abbrev case_names : List OneAlternative → List Name
  case_names cases = map (λ (c : List ℕ × List Test). c.0) (conditions_of (alternatives_of cases))

  case_name_is : (x : Site) (p : Position) (rest : List OneAlternative) → is_alternative p ≡ true → case_names (cons_option (alternative_with w ss x (m x) p) rest) ≡ label p ∷ case_names rest
  case_name_is x (root owner name) rest h = absurd (true≢false (sym h))
  case_name_is x (part name r) rest h = absurd (true≢false (sym h))
  case_name_is x (inserted name r) rest h = absurd (true≢false (sym h))
  case_name_is x (alternative name) rest h = refl
  case_name_is x element rest h = absurd (true≢false (sym h))
  case_name_is x content rest h = absurd (true≢false (sym h))

  cases_named : (path : List ℕ) (k : ℕ) (xs : List Site) → AlternativesFrom path k xs → case_names (filter_map (alternative_at w ss m) xs) ≡ labels xs
  cases_named path k [] h = refl
  cases_named path k (x ∷ xs) h = case_name_is x x.position (filter_map (alternative_at w ss m) xs) h.1 ∙ ap (λ (ns : List Name). label x.position ∷ ns) (cases_named path (suc k) xs h.2)

-- ---- forms

module _ (w : World) (ss : Slots) where
  no_leaf : (sizing : Sizing) (m : Site → Grammar) (xs : List Site) → is_outer (octets_at sizing m xs) ≡ true → form_fine (octets_at sizing m xs) ≡ true
  no_leaf sizing m [] h = absurd (true≢false (sym h))
  no_leaf sizing m (x ∷ xs) h = absurd (true≢false (sym h))

  outer_form : (s : Site) (n : ℕ) (b : AsnBase) → sites_below w s ≡ sites_in w s (inside_of b) → unless_fit b (below w s).braces ≡ false → all_differ same_name (names_inside b (below w s).braces) ≡ true → has_some b ≡ true
      → is_ruled (form_at w ss (made n w ss) s (class_of_base b)) ≡ true → is_outer (form_at w ss (made n w ss) s (class_of_base b)) ≡ true → form_fine (form_at w ss (made n w ss) s (class_of_base b)) ≡ true
  outer_form s n boolean e f d g r h = absurd (true≢false (sym h))
  outer_form s n null e f d g r h = absurd (true≢false (sym h))
  outer_form s n (integer ns) e f d g r h = absurd (true≢false (sym h))
  outer_form s n (enumerated items) e f d g r h = absurd (true≢false (sym h))
  outer_form s n octet_string e f d g r h = no_leaf (sizing_at w ss s) (made n w ss) (sites_below w s) h
  outer_form s n bit_string e f d g r h = absurd (true≢false (sym h))
  outer_form s n ia5_string e f d g r h = absurd (true≢false (sym h))
  outer_form s n (sequence cs) e f d g r h =
      let b = in_sequence (component_list cs) (below w s) in
      let named = fields_named w ss (made n w ss) s.path 0 (sites_below w s) (subst (FieldsFrom s.path 0) (sym e) (fields_in w b cs (below w s).braces f)) in
      ap (all_differ same_name) (named ∙ (ap labels e ∙ field_labels w b cs (below w s).braces f)) ∙ d
  outer_form s n (sequence_of t) e f d g r h = absurd (true≢false (sym h))
  outer_form s n (sequence_size c t) e f d g r h = absurd (true≢false (sym h))
  outer_form s n (choice more) e f d g r h =
      let cases = conditions_of (alternatives_of (filter_map (alternative_at w ss (made n w ss)) (sites_below w s))) in
      let named = cases_named w ss (made n w ss) s.path 0 (sites_below w s) (subst (AlternativesFrom s.path 0) (sym e) (alternatives_in w (below w s) 0 (alternative_list more))) ∙ (ap labels e ∙ alternative_labels w (below w s) 0 (alternative_list more)) in
      true_both (nat_lt 0 (length cases)) (all_differ same_name (map (λ (c : List ℕ × List Test). c.0) cases) && choice_rule_fine cases (told_by (determinant_by kind.Determinant w ss s) (filter_map (alternative_at w ss (made n w ss)) (sites_below w s))))
      (ap (nat_lt 0) (sym (length-map cases (λ (c : List ℕ × List Test). c.0)) ∙ (ap (λ (z : List Name). length z) named ∙ length-map (alternative_list more) (λ (a : Alternative). a.name))) ∙ g)
      (true_both (all_differ same_name (map (λ (c : List ℕ × List Test). c.0) cases)) (choice_rule_fine cases (told_by (determinant_by kind.Determinant w ss s) (filter_map (alternative_at w ss (made n w ss)) (sites_below w s)))) (ap (all_differ same_name) named ∙ d) r)
  outer_form s n (reference from name) e f d g r h = absurd (true≢false (sym h))

  pub outer_fine : (at : Stand) (s : Site) → StandsFor w ss at s → FineSite w s → all_differ same_name (names_inside (base_of s) (below w s).braces) ≡ true → has_some (base_of s) ≡ true → is_ruled at.form ≡ true → is_outer at.form ≡ true → form_fine at.form ≡ true
  outer_fine at s h f d g r o =
      ap form_fine h.form.1
      ∙ outer_form s h.form.0 (base_of s) (below_is w s) (braces_fit w s f.braces) d g (ap is_ruled (sym h.form.1) ∙ r) (ap is_outer (sym h.form.1) ∙ o)
