-- The paths of the nodes of a tree, in preorder.
use Rattle.std.proofs.Common.{◌≡◌, ℕ, zero, suc, ◌<◌, ◌≤◌, nat_cmp, nat_lt, nat_eq, Bool, true, cond, List, [], ◌∷◌, ◌++◌, map, append_assoc, append-nil, refl, sym, ap, subst, ◌∙◌, arith, Ordering, Less, Equal, Greater}
use Rattle.std.specs.List.{AllByRecursion}
use Rattle.std.specs.List.Sorted.{IsStrictlySortedBy}
use Rattle.std.specs.Ordering.{ordering_then}
use Rattle.std.proofs.lemmas.Bool.Decides.{nat_tests}
use Rattle.std.proofs.lemmas.Cmp.{nat_cmp_total, tied_itself}
use Rattle.acn_grammar.specs.Grammar.{Grammar, Form, Fields, Alternatives, node, num, octets, bits, text, seq, list, choice, contained, no_fields, component, inserted, no_alternatives, alternative}
use Rattle.acn_grammar.specs.Walk.{Stand, Role, component_role, an_inserted, alternative_role, an_element, a_content, nodes, form_nodes, field_nodes, alternative_nodes}
use Rattle.acn_grammar.specs.declared.node.ChoiceRule.{ChoiceRule}
use Rattle.acn_homes.specs.Homes.{Path, Rises, preorder}
use Rattle.acn_home_laws.specs.Laws.{paths}

-- ---- the order of two paths with a common front

less : (a b : ℕ) → a < b → nat_cmp a b ≡ Less
less a b h = ap (λ (t : Bool). cond t Less (cond (nat_eq a b) Equal Greater)) (tested a b h)
  where
    tested : (a b : ℕ) → a < b → nat_lt a b ≡ true
    tested a b h = grind (arith, nat_tests)

common : (p a b : Path) → preorder (p ++ a) (p ++ b) ≡ preorder a b
common [] a b = refl
common (x ∷ p) a b = ap (λ (o : Ordering). ordering_then o (preorder (p ++ a) (p ++ b))) (tied_itself nat_cmp_total x) ∙ common p a b

later : (p : Path) (j k : ℕ) (a b : Path) → j < k → preorder (p ++ j ∷ a) (p ++ k ∷ b) ≡ Less
later p j k a b h = common p (j ∷ a) (k ∷ b) ∙ ap (λ (o : Ordering). ordering_then o (preorder a b)) (less j k h)

deeper : (p : Path) (k : ℕ) (r : Path) → preorder p (p ++ k ∷ r) ≡ Less
deeper [] k r = refl
deeper (x ∷ p) k r = ap (λ (o : Ordering). ordering_then o (preorder p (p ++ k ∷ r))) (tied_itself nat_cmp_total x) ∙ deeper p k r

-- ---- what stands below a path

abbrev pub Front : Path → Path → Type 0
Front path p = (r : Path) × (p ≡ path ++ r)

-- behind the path by a step of at least k
abbrev pub From : Path → ℕ → Path → Type 0
From path k p = (j : ℕ) × (r : Path) × (k ≤ j) × (p ≡ path ++ j ∷ r)

all_append : (P : Path → Type 0) (a b : List Stand) → AllByRecursion P (paths a) → AllByRecursion P (paths b) → AllByRecursion P (paths (a ++ b))
all_append P [] b h k = k
all_append P (x ∷ a) b h k = (h.0, all_append P a b h.1 k)

pub all_follow : (P Q : Path → Type 0) → ((p : Path) → P p → Q p) → (all : List Path) → AllByRecursion P all → AllByRecursion Q all
all_follow P Q f [] h = tt
all_follow P Q f (p ∷ all) h = (f p h.0, all_follow P Q f all h.1)

stepped : (path : Path) (k : ℕ) (p : Path) → Front (path ++ k ∷ []) p → From path k p
stepped path k p h = (k, h.0, omega arith, h.1 ∙ append_assoc path (k ∷ []) h.0)

raised : (path : Path) (k : ℕ) (p : Path) → From path (suc k) p → From path k p
raised path k p h = (h.0, h.1, (let l = h.2 in omega (arith, l)), h.3)

fronted : (path : Path) (k : ℕ) (p : Path) → From path k p → Front path p
fronted path k p h = (h.0 ∷ h.1, h.3)

mutual
  pub nodes_front : (role : Role) (path around : List ℕ) (g : Grammar) → AllByRecursion (Front path) (paths (nodes role path around g))
  nodes_front role path around (node align form) = (([], sym (append-nil path)), all_follow (From path 0) (Front path) (fronted path 0) (paths (form_nodes path around form)) (form_from path around form))

  pub form_from : (path around : List ℕ) (form : Form) → AllByRecursion (From path 0) (paths (form_nodes path around form))
  form_from path around (num leaf) = tt
  form_from path around (octets sizing) = tt
  form_from path around (bits sizing) = tt
  form_from path around (text leaf) = tt
  form_from path around (seq fields home) = fields_from path (home ++ around) 0 fields
  form_from path around (list sizing g) = all_follow (Front (path ++ 0 ∷ [])) (From path 0) (stepped path 0) (paths (nodes an_element (path ++ 0 ∷ []) around g)) (nodes_front an_element (path ++ 0 ∷ []) around g)
  form_from path around (choice alternatives rule) = alternatives_from rule path around 0 alternatives
  form_from path around (contained sizing g) = all_follow (Front (path ++ 0 ∷ [])) (From path 0) (stepped path 0) (paths (nodes a_content (path ++ 0 ∷ []) around g)) (nodes_front a_content (path ++ 0 ∷ []) around g)

  pub fields_from : (path around : List ℕ) (k : ℕ) (fs : Fields) → AllByRecursion (From path k) (paths (field_nodes path around k fs))
  fields_from path around k no_fields = tt
  fields_from path around k (component name g presence default own fs) =
      all_append (From path k) (nodes (component_role name presence default own) (path ++ k ∷ []) around g) (field_nodes path around (suc k) fs)
      (all_follow (Front (path ++ k ∷ [])) (From path k) (stepped path k) (paths (nodes (component_role name presence default own) (path ++ k ∷ []) around g)) (nodes_front (component_role name presence default own) (path ++ k ∷ []) around g))
      (all_follow (From path (suc k)) (From path k) (raised path k) (paths (field_nodes path around (suc k) fs)) (fields_from path around (suc k) fs))
  fields_from path around k (inserted name g slot fs) =
      all_append (From path k) (nodes (an_inserted name slot) (path ++ k ∷ []) around g) (field_nodes path around (suc k) fs)
      (all_follow (Front (path ++ k ∷ [])) (From path k) (stepped path k) (paths (nodes (an_inserted name slot) (path ++ k ∷ []) around g)) (nodes_front (an_inserted name slot) (path ++ k ∷ []) around g))
      (all_follow (From path (suc k)) (From path k) (raised path k) (paths (field_nodes path around (suc k) fs)) (fields_from path around (suc k) fs))

  pub alternatives_from : (rule : ChoiceRule) (path around : List ℕ) (k : ℕ) (all : Alternatives) → AllByRecursion (From path k) (paths (alternative_nodes rule path around k all))
  alternatives_from rule path around k no_alternatives = tt
  alternatives_from rule path around k (alternative name g tests more) =
      all_append (From path k) (nodes (alternative_role name tests rule) (path ++ k ∷ []) around g) (alternative_nodes rule path around (suc k) more)
      (all_follow (Front (path ++ k ∷ [])) (From path k) (stepped path k) (paths (nodes (alternative_role name tests rule) (path ++ k ∷ []) around g)) (nodes_front (alternative_role name tests rule) (path ++ k ∷ []) around g))
      (all_follow (From path (suc k)) (From path k) (raised path k) (paths (alternative_nodes rule path around (suc k) more)) (alternatives_from rule path around (suc k) more))

-- ---- in preorder

abbrev Behind : Path → List Path → Type 0
Behind p all = AllByRecursion (λ q. preorder p q ≡ Less) all

rises_append : (a b : List Stand) → Rises (paths a) → Rises (paths b) → AllByRecursion (λ p. Behind p (paths b)) (paths a) → Rises (paths (a ++ b))
unfolding IsStrictlySortedBy
rises_append [] b r s h = s
rises_append (x ∷ a) b r s h = (all_append (λ q. preorder x.path q ≡ Less) a b r.0 h.0, rises_append a b r.1 s h.1)

step_before : (path : Path) (k : ℕ) (p q : Path) → Front (path ++ k ∷ []) p → From path (suc k) q → preorder p q ≡ Less
step_before path k p q h g =
    let here : p ≡ path ++ k ∷ h.0 = h.1 ∙ append_assoc path (k ∷ []) h.0 in
    let more = g.2 in
    ap (λ (z : Path). preorder z q) here ∙ (ap (λ (z : Path). preorder (path ++ k ∷ h.0) z) g.3 ∙ later path k g.0 h.0 g.1 (omega (arith, more)))

before_rest : (path : Path) (k : ℕ) (one rest : List Path) → AllByRecursion (Front (path ++ k ∷ [])) one → AllByRecursion (From path (suc k)) rest → AllByRecursion (λ p. Behind p rest) one
before_rest path k one rest h g =
    all_follow (Front (path ++ k ∷ [])) (λ p. Behind p rest) (λ p f. all_follow (From path (suc k)) (λ q. preorder p q ≡ Less) (λ q b. step_before path k p q f b) rest g) one h

joined_rise : (path : Path) (k : ℕ) (one rest : List Stand) → AllByRecursion (Front (path ++ k ∷ [])) (paths one) → AllByRecursion (From path (suc k)) (paths rest) → Rises (paths one) → Rises (paths rest) → Rises (paths (one ++ rest))
joined_rise path k one rest h g r s = rises_append one rest r s (before_rest path k (paths one) (paths rest) h g)

headed : (path : Path) (all : List Path) → AllByRecursion (From path 0) all → Rises all → Rises (path ∷ all)
unfolding IsStrictlySortedBy
headed path all h r = (all_follow (From path 0) (λ q. preorder path q ≡ Less) (λ q f. ap (preorder path) f.3 ∙ deeper path f.0 f.1) all h, r)

nothing_rises : Rises []
unfolding IsStrictlySortedBy
nothing_rises = tt

mutual
  pub nodes_rise : (role : Role) (path around : List ℕ) (g : Grammar) → Rises (paths (nodes role path around g))
  nodes_rise role path around (node align form) = headed path (paths (form_nodes path around form)) (form_from path around form) (form_rises path around form)

  form_rises : (path around : List ℕ) (form : Form) → Rises (paths (form_nodes path around form))
  form_rises path around (num leaf) = nothing_rises
  form_rises path around (octets sizing) = nothing_rises
  form_rises path around (bits sizing) = nothing_rises
  form_rises path around (text leaf) = nothing_rises
  form_rises path around (seq fields home) = fields_rise path (home ++ around) 0 fields
  form_rises path around (list sizing g) = nodes_rise an_element (path ++ 0 ∷ []) around g
  form_rises path around (choice alternatives rule) = alternatives_rise rule path around 0 alternatives
  form_rises path around (contained sizing g) = nodes_rise a_content (path ++ 0 ∷ []) around g

  fields_rise : (path around : List ℕ) (k : ℕ) (fs : Fields) → Rises (paths (field_nodes path around k fs))
  fields_rise path around k no_fields = nothing_rises
  fields_rise path around k (component name g presence default own fs) =
      joined_rise path k (nodes (component_role name presence default own) (path ++ k ∷ []) around g) (field_nodes path around (suc k) fs)
      (nodes_front (component_role name presence default own) (path ++ k ∷ []) around g) (fields_from path around (suc k) fs)
      (nodes_rise (component_role name presence default own) (path ++ k ∷ []) around g) (fields_rise path around (suc k) fs)
  fields_rise path around k (inserted name g slot fs) =
      joined_rise path k (nodes (an_inserted name slot) (path ++ k ∷ []) around g) (field_nodes path around (suc k) fs)
      (nodes_front (an_inserted name slot) (path ++ k ∷ []) around g) (fields_from path around (suc k) fs)
      (nodes_rise (an_inserted name slot) (path ++ k ∷ []) around g) (fields_rise path around (suc k) fs)

  alternatives_rise : (rule : ChoiceRule) (path around : List ℕ) (k : ℕ) (all : Alternatives) → Rises (paths (alternative_nodes rule path around k all))
  alternatives_rise rule path around k no_alternatives = nothing_rises
  alternatives_rise rule path around k (alternative name g tests more) =
      joined_rise path k (nodes (alternative_role name tests rule) (path ++ k ∷ []) around g) (alternative_nodes rule path around (suc k) more)
      (nodes_front (alternative_role name tests rule) (path ++ k ∷ []) around g) (alternatives_from rule path around (suc k) more)
      (nodes_rise (alternative_role name tests rule) (path ++ k ∷ []) around g) (alternatives_rise rule path around (suc k) more)
