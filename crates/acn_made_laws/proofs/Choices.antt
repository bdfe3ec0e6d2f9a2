-- The rule of a CHOICE that is made.
use Rattle.std.proofs.Common.{◌≡◌, ℕ, zero, suc, ◌+◌, ◌-◌, ◌^◌, ◌<◌, ◌≤◌, nat_eq, nat_lt, nat_le, Bool, true, false, not, ◌||◌, cond, List, [], ◌∷◌, ◌++◌, length, filter, filter_map, find, Option, Some, None, if◌then◌else◌, length-append, refl, ap, ◌∙◌, arith}
use Rattle.std.proofs.lemmas.Bool.Decides.{nat_tests}
use Rattle.std.proofs.lemmas.List.Sums.{length-filter, count_by-le-length}
use Rattle.std.specs.List.{list_any, range_with_len}
use Rattle.acn_asn_syntax.specs.Mirror.{AsnBase, boolean, null, integer, enumerated, octet_string, bit_string, ia5_string, sequence, sequence_of, sequence_size, choice, reference}
use Rattle.acn_grammar.specs.Grammar.{Grammar, Form, Alternatives, node, no_alternatives, alternative}
use Rattle.acn_grammar.specs.Tree as tree
use Rattle.acn_grammar.specs.Tree.{choice_rule_fine}
use Rattle.acn_grammar.specs.View.{OneAlternative, alternatives_of}
use Rattle.acn_grammar.specs.Walk.{Stand, Role, alternative_role, nodes, nodes_of, alternative_nodes, form_nodes, inside, conditions_of}
use Rattle.acn_grammar.specs.declared.limits.TheConstants.{MOST_NODES}
use Rattle.acn_grammar.specs.declared.node.ChoiceRule.{ChoiceRule}
use Rattle.acn_grammar.specs.declared.node.ChoiceRule.TheVariants.{Index, Tests}
use Rattle.acn_grammar.specs.declared.node.Sizing.{Sizing}
use Rattle.acn_grammar.specs.declared.node.Test.{Test}
use Rattle.acn_home_laws.specs.Laws.{NodesInsideGoOn, stands_below}
use Rattle.acn_home_laws.proofs.Members.{In, each_has}
use Rattle.acn_home_laws.proofs.Onward.{true_both}
use Rattle.acn_index.specs.Chains.{has_items}
use Rattle.acn_index.specs.World.{World}
use Rattle.acn_leaves.specs.Widths.{least_width, or_word}
use Rattle.acn_made.specs.Made.{made, form_at, octets_at, told_by, has_tests, alternative_at}
use Rattle.acn_made.specs.Named.{Slots, determinant_by}
use Rattle.acn_made.specs.Sized.{sizing_at}
use Rattle.acn_made_laws.specs.Laws.{is_ruled}
use Rattle.acn_made_laws.specs.Standing.{StandsFor}
use Rattle.acn_num.specs.Bits.{is_least_width}
use Rattle.acn_reasons.specs.Classes.{class_of_base}
use Rattle.acn_sites.specs.Sites.{Site, base_of, sites_below}
use Rattle.acn_sites.specs.declared.attributes.AttrKind.TheVariants as kind

-- ---- the least width

is_less : (a b : ℕ) → nat_lt a b ≡ false → nat_le b a ≡ true
is_less a b h = grind (arith, nat_tests)

not_nothing : (a : ℕ) → (a ≡ 0 → ⊥) → nat_eq a 0 ≡ false
not_nothing a z = grind (arith, nat_tests)

least_here : (n a : ℕ) → (a ≡ 0 → ⊥) → nat_lt n (2 ^ (a - 1)) ≡ false → nat_lt n (2 ^ a) ≡ true → is_least_width n a ≡ true
least_here n a z before h = true_both (nat_lt n (2 ^ a)) (nat_eq a 0 || nat_le (2 ^ (a - 1)) n) h (ap (λ (t : Bool). t || nat_le (2 ^ (a - 1)) n) (not_nothing a z) ∙ is_less n (2 ^ (a - 1)) before)

-- the first of the widths, where none before it is wide enough
least_found : (n a m : ℕ) → (a ≡ 0 → ⊥) → nat_lt n (2 ^ (a - 1)) ≡ false → nat_lt n (2 ^ (a + m)) ≡ true → is_least_width n (or_word (find (λ width. nat_lt n (2 ^ width)) (range_with_len a (suc m)))) ≡ true
least_found n a zero z before last =
    let e : nat_lt n (2 ^ a) ≡ true = ap (λ (j : ℕ). nat_lt n (2 ^ j)) (omega arith) ∙ last in
    ap (λ (t : Bool). is_least_width n (or_word (cond t (Some a) None))) e ∙ least_here n a z before e
least_found n a (suc m) z before last =
    by (nat_lt n (2 ^ a)) refl (λ e. least_found n (a + 1) m (λ i. omega (arith, i)) (ap (λ (j : ℕ). nat_lt n (2 ^ j)) (omega arith) ∙ e) (ap (λ (j : ℕ). nat_lt n (2 ^ j)) (omega arith) ∙ last))
  where
    by : (t : Bool) → nat_lt n (2 ^ a) ≡ t → (nat_lt n (2 ^ a) ≡ false → is_least_width n (or_word (find (λ width. nat_lt n (2 ^ width)) (range_with_len (a + 1) (suc m)))) ≡ true)
        → is_least_width n (or_word (cond t (Some a) (find (λ width. nat_lt n (2 ^ width)) (range_with_len (a + 1) (suc m))))) ≡ true
    by true e rest = least_here n a z before e
    by false e rest = rest e

is_least : (n : ℕ) → n < 2 ^ 64 → is_least_width n (least_width n) ≡ true
unfolding least_width
is_least n l = by (nat_lt n (2 ^ 0)) refl
  where
    below : (a b : ℕ) → a < b → nat_lt a b ≡ true
    below a b h = grind (arith, nat_tests)

    by : (t : Bool) → nat_lt n (2 ^ 0) ≡ t → is_least_width n (or_word (cond t (Some 0) (find (λ width. nat_lt n (2 ^ width)) (range_with_len 1 64)))) ≡ true
    by true e = true_both (nat_lt n (2 ^ 0)) true e refl
    by false e = least_found n 1 63 (λ z. omega (arith, z)) e (below n (2 ^ 64) l)

-- ---- conditions

same_test : (ts : List Test) → nat_lt 0 (length ts) ≡ has_items ts
same_test [] = refl
same_test (t ∷ ts) = below 0 (length (t ∷ ts)) (omega arith)
  where
    below : (a b : ℕ) → a < b → nat_lt a b ≡ true
    below a b h = grind (arith, nat_tests)

same_tests : (cases : List OneAlternative) → list_any tree.has_tests (conditions_of (alternatives_of cases)) ≡ list_any has_tests cases
same_tests [] = refl
same_tests (c ∷ cases) = ap (λ (t : Bool). t || list_any tree.has_tests (conditions_of (alternatives_of cases))) (same_test c.tests) ∙ ap (λ (t : Bool). has_tests c || t) (same_tests cases)

as_many : (cases : List OneAlternative) → length (conditions_of (alternatives_of cases)) ≡ length cases
as_many [] = refl
as_many (c ∷ cases) = ap (λ (n : ℕ). suc n) (as_many cases)

ruled : (o : Option ℕ) (cases : List OneAlternative) → length cases ≤ MOST_NODES → choice_rule_fine (conditions_of (alternatives_of cases)) (told_by o cases) ≡ true
ruled (Some s) cases l = refl
ruled None cases l = by (list_any has_tests cases) (same_tests cases)
  where
    small : length cases - 1 < 2 ^ 64
    small = omega (arith, l)

    by : (t : Bool) → list_any tree.has_tests (conditions_of (alternatives_of cases)) ≡ t → choice_rule_fine (conditions_of (alternatives_of cases)) (if t then Tests else Index (least_width (length cases - 1))) ≡ true
    by true e = e
    by false e =
        true_both (is_least_width (length (conditions_of (alternatives_of cases)) - 1) (least_width (length cases - 1))) (not (list_any tree.has_tests (conditions_of (alternatives_of cases))))
        (ap (λ (n : ℕ). is_least_width (n - 1) (least_width (length cases - 1))) (as_many cases) ∙ is_least (length cases - 1) small) (ap not e)

-- ---- no more alternatives than nodes

one_node : (role : Role) (path around : List ℕ) (g : Grammar) → 1 ≤ length (nodes role path around g)
one_node role path around (node align form) = omega arith

few_cases : (rule : ChoiceRule) (path around : List ℕ) (k : ℕ) (more : Alternatives) → length (conditions_of more) ≤ length (alternative_nodes rule path around k more)
few_cases rule path around k no_alternatives = omega arith
few_cases rule path around k (alternative name g tests more) =
    let a = one_node (alternative_role name tests rule) (path ++ k ∷ []) around g in
    let b = few_cases rule path around (suc k) more in
    let c = length-append (nodes (alternative_role name tests rule) (path ++ k ∷ []) around g) (alternative_nodes rule path around (suc k) more) in
    omega (arith, a, b, c)

pub few_inside : NodesInsideGoOn → (root : Grammar) (at : Stand) → In at (nodes_of root) → length (inside at) ≤ length (nodes_of root)
few_inside law root at m =
    let e = ap (λ (z : List Stand). length z) (each_has (λ at. inside at ≡ filter (stands_below at) (nodes_of root)) (nodes_of root) (law root) at m) in
    let f = length-filter (stands_below at) (nodes_of root) in
    let g = count_by-le-length (stands_below at) (nodes_of root) in
    omega (arith, e, f, g)

-- ---- a made form

module _ (w : World) (ss : Slots) where
  octets_ruled : (sizing : Sizing) (m : Site → Grammar) (xs : List Site) → is_ruled (octets_at sizing m xs) ≡ true
  octets_ruled sizing m [] = refl
  octets_ruled sizing m (x ∷ xs) = refl

  form_ruled : (at : Stand) (s : Site) (n : ℕ) (b : AsnBase) → at.form ≡ form_at w ss (made n w ss) s (class_of_base b) → length (inside at) ≤ MOST_NODES → is_ruled (form_at w ss (made n w ss) s (class_of_base b)) ≡ true
  form_ruled at s n boolean e l = refl
  form_ruled at s n null e l = refl
  form_ruled at s n (integer ns) e l = refl
  form_ruled at s n (enumerated items) e l = refl
  form_ruled at s n octet_string e l = octets_ruled (sizing_at w ss s) (made n w ss) (sites_below w s)
  form_ruled at s n bit_string e l = refl
  form_ruled at s n ia5_string e l = refl
  form_ruled at s n (sequence cs) e l = refl
  form_ruled at s n (sequence_of t) e l = refl
  form_ruled at s n (sequence_size c t) e l = refl
  form_ruled at s n (choice more) e l =
      let cases = filter_map (alternative_at w ss (made n w ss)) (sites_below w s) in
      let o = determinant_by kind.Determinant w ss s in
      let a = few_cases (told_by o cases) at.path at.around 0 (alternatives_of cases) in
      let b = as_many cases in
      let c = ap (λ (z : Form). length (form_nodes at.path at.around z)) e in
      ruled o cases (omega (arith, a, b, c, l))
  form_ruled at s n (reference from name) e l = refl

  pub node_ruled : (at : Stand) (s : Site) → StandsFor w ss at s → length (inside at) ≤ MOST_NODES → is_ruled at.form ≡ true
  node_ruled at s h l = ap is_ruled h.form.1 ∙ form_ruled at s h.form.0 (base_of s) h.form.1 l
