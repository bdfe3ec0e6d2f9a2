-- The sites below a site, by their paths and what they are in it.
use Rattle.std.proofs.Common.{◌≡◌, ℕ, suc, ◌+◌, Bool, true, false, true≢false, not, ◌||◌, List, [], ◌∷◌, ◌++◌, map, filter_map, find, Option, Some, None, option_map, if◌then◌else◌, cond, bytes_eq, refl, sym, ap, subst, ◌∙◌, add-one}
use Rattle.std.specs.Prelude.{⊤}
use Rattle.std.specs.List.{AllByRecursion, list_any, enumerate_from, cons_option}
use Rattle.std.proofs.lemmas.Slice.Eq.{bytes_eq-Decides}
use Rattle.acn_acn_syntax.specs.Mirror as acn
use Rattle.acn_acn_syntax.specs.Mirror.{braces_list}
use Rattle.acn_asn_syntax.specs.Mirror.{AsnType, Component, Components, component_list, Alternative, sequence}
use Rattle.acn_home_laws.proofs.Members.{In, all_have, passes, was_mapped}
use Rattle.acn_index.specs.World.{World}
use Rattle.acn_num.specs.Names.{Name}
use Rattle.acn_reasons.specs.Braced.{behind, going_on, lists, component_names, unless_fit}
use Rattle.acn_sites.specs.Sites.{Site, Position, root, part, inserted, alternative, element, content, Below, below, field_site, alternative_site, element_site}
use Rattle.acn_slots.specs.Slots.{Use, Field, component, component_named, numbered_field, bare_field, fields_of}

abbrev pub is_field : Position → Bool
is_field (root owner name) = false
is_field (part name rest) = true
is_field (inserted name kind) = true
is_field (alternative name) = false
is_field element = false
is_field content = false

abbrev pub is_alternative : Position → Bool
is_alternative (root owner name) = false
is_alternative (part name rest) = false
is_alternative (inserted name kind) = false
is_alternative (alternative name) = true
is_alternative element = false
is_alternative content = false

-- these stand below a path, from the step k on, one behind the other
abbrev pub FieldsFrom : List ℕ → ℕ → List Site → Type 0
FieldsFrom path k [] = ⊤
FieldsFrom path k (x ∷ xs) = (x.path ≡ path ++ k ∷ []) × (is_field x.position ≡ true) × FieldsFrom path (suc k) xs

abbrev pub AlternativesFrom : List ℕ → ℕ → List Site → Type 0
AlternativesFrom path k [] = ⊤
AlternativesFrom path k (x ∷ xs) = (x.path ≡ path ++ k ∷ []) × (is_alternative x.position ≡ true) × AlternativesFrom path (suc k) xs

-- ---- fields

pub found_some : {X : Type 0} (test : X → Bool) (xs : List X) → list_any test xs ≡ true → (x : X) × (find test xs ≡ Some x)
found_some test [] h = absurd (true≢false (sym h))
found_some {X} test (y ∷ ys) h = by (test y) h (found_some test ys)
  where
    by : (b : Bool) → (b || list_any test ys) ≡ true → (list_any test ys ≡ true → (x : X) × (find test ys ≡ Some x)) → (x : X) × (cond b (Some y) (find test ys) ≡ Some x)
    by true g rest = (y, refl)
    by false g rest = rest g

bytes_same : (a b : List ℕ) → a ≡ b → bytes_eq a b ≡ true
bytes_same a b e = (bytes_eq-Decides a b).1 e

pub same_bytes : (a b : List ℕ) → bytes_eq a b ≡ true → a ≡ b
same_bytes a b h = (bytes_eq-Decides a b).0 h

-- the components have these names
abbrev pub Known : List Component → List Name → Type 0
Known cs names = AllByRecursion (λ (n : Name). list_any (λ (c : Component). bytes_eq c.name n) cs ≡ true) names

pub known_names : (cs : List Component) → Known cs (component_names cs)
known_names cs = all_have (λ (n : Name). list_any (λ (c : Component). bytes_eq c.name n) cs ≡ true) (component_names cs) known
  where
    known : (n : Name) → In n (component_names cs) → list_any (λ (c : Component). bytes_eq c.name n) cs ≡ true
    known n m = (let r = was_mapped (λ (c : Component). c.name) cs n m in passes (λ (c : Component). bytes_eq c.name n) cs r.0 r.1 (bytes_same r.0.name n (sym r.2)))

bare_fields : (w : World) (b : Below) (k : ℕ) (cs : List Component) → FieldsFrom b.path k (map (field_site w b) (map bare_field (enumerate_from k cs)))
bare_fields w b k [] = tt
bare_fields w b k (c ∷ cs) = (refl, refl, subst (λ (m : ℕ). FieldsFrom b.path (suc k) (map (field_site w b) (map bare_field (enumerate_from m cs)))) (sym (add-one k)) (bare_fields w b (suc k) cs))

-- a field more, in front of others
one_more : (w : World) (b : Below) (k : ℕ) (u : Use) (o : Option Component) (c : Component) (more : List (ℕ × Field)) → o ≡ Some c → FieldsFrom b.path (suc k) (map (field_site w b) more)
    → FieldsFrom b.path k (map (field_site w b) (cons_option (option_map (λ (x : Field). (k, x)) (option_map (λ (c : Component). component c u) o)) more))
one_more w b k u None c more e h = absurd (cc e)
one_more w b k u (Some d) c more e h = (refl, refl, h)

pub named_first : (names : List Name) (name : Name) (next : List Name → Bool) → going_on next (behind names name) ≡ true → (n : Name) × (more : List Name) × (names ≡ n ∷ more) × (n ≡ name) × (next more ≡ true)
named_first [] name next h = absurd (true≢false (sym h))
named_first (n ∷ names) name next h = by (bytes_eq n name) refl h
  where
    by : (t : Bool) → bytes_eq n name ≡ t → going_on next (if t then Some names else None) ≡ true → (m : Name) × (more : List Name) × (n ∷ names ≡ m ∷ more) × (m ≡ name) × (next more ≡ true)
    by true e g = (n, names, refl, same_bytes n name e, g)
    by false e g = absurd (true≢false (sym g))

listed_fields : (w : World) (b : Below) (cs : List Component) (k : ℕ) (names : List Name) (fs : List acn.Field) → Known cs names → lists true names fs ≡ true → FieldsFrom b.path k (map (field_site w b) (filter_map (numbered_field cs) (enumerate_from k fs)))
listed_fields w b cs k names [] known h = tt
listed_fields w b cs k names (acn.plain name arguments attributes bs ∷ fs) known h =
    let r = named_first names name (λ (more : List Name). lists true more fs) h in
    let m = subst (Known cs) r.2 known in
    let f = found_some (λ (c : Component). bytes_eq c.name name) cs (ap (λ (n : Name). list_any (λ (c : Component). bytes_eq c.name n) cs) (sym r.3) ∙ m.0) in
    one_more w b k (record { arguments = arguments; attributes = attributes; braces = braces_list bs }) (component_named cs name) f.0 (filter_map (numbered_field cs) (enumerate_from (k + 1) fs)) f.1
    (subst (λ (j : ℕ). FieldsFrom b.path (suc k) (map (field_site w b) (filter_map (numbered_field cs) (enumerate_from j fs)))) (sym (add-one k)) (listed_fields w b cs (suc k) r.1 fs m.1 r.4))
listed_fields w b cs k names (acn.inserted name kind attributes ∷ fs) known h =
    (refl, refl, subst (λ (j : ℕ). FieldsFrom b.path (suc k) (map (field_site w b) (filter_map (numbered_field cs) (enumerate_from j fs)))) (sym (add-one k)) (listed_fields w b cs (suc k) names fs known h))
listed_fields w b cs k names (acn.number name n ∷ fs) known h = absurd (true≢false (sym h))

pub not_false : (b : Bool) → not b ≡ false → b ≡ true
not_false true h = refl
not_false false h = absurd (true≢false h)

pub fields_in : (w : World) (b : Below) (cs : Components) (o : Option (List acn.Field)) → unless_fit (sequence cs) o ≡ false → FieldsFrom b.path 0 (map (field_site w b) (fields_of o (component_list cs)))
fields_in w b cs None h = bare_fields w b 0 (component_list cs)
fields_in w b cs (Some fs) h = listed_fields w b (component_list cs) 0 (component_names (component_list cs)) fs (known_names (component_list cs)) (not_false (lists true (component_names (component_list cs)) fs) h)

-- ---- alternatives, and the one site below

pub alternatives_in : (w : World) (b : Below) (k : ℕ) (more : List Alternative) → AlternativesFrom b.path k (map (alternative_site w b) (enumerate_from k more))
alternatives_in w b k [] = tt
alternatives_in w b k (a ∷ more) = (refl, refl, subst (λ (m : ℕ). AlternativesFrom b.path (suc k) (map (alternative_site w b) (enumerate_from m more))) (sym (add-one k)) (alternatives_in w b (suc k) more))

pub element_there : (w : World) (s : Site) (t : AsnType) (o : Option (List acn.Field)) → ((element_site w s t (below w s) o).path ≡ s.path ++ 0 ∷ []) × ((element_site w s t (below w s) o).position ≡ element)
element_there w s t None = (refl, refl)
element_there w s t (Some fs) = (refl, refl)
