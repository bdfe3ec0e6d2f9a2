-- The rules of a sound tree give all that the pass takes.
use Rattle.std.proofs.Common.{◌≡◌, ℕ, suc, ◌+◌, ◌≤◌, List, [], ◌∷◌, ◌++◌, Option, Some, None, refl, sym, ap, ◌∙◌, arith, subst}
use Rattle.acn_grammar.specs.Grammar.{Grammar, Form, Fields, Alternatives, node, num, octets, bits, text, seq, list, choice, contained, no_fields, component, inserted, no_alternatives, alternative}
use Rattle.acn_grammar.specs.Paths.{node_at, node_along, child, field_at, alternative_at, if_some}
use Rattle.acn_grammar.specs.Scoped.{Known, with_slot, with_own, after, choose_known}
use Rattle.acn_grammar.specs.Sound.{Sound, FormSound, FieldsSound, AlternativesSound, SequenceSound}
use Rattle.acn_grammar.specs.Tree.{IsTree}
use Rattle.acn_grammar.specs.declared.limits.TheConstants.{MOST_NODES}
use Rattle.acn_single.specs.Lines.{CanList, FormCanList, FieldsCanList, AlternativesCanList}
use Rattle.acn_single.proofs.Tuples.{first_two, last_two, second_three, last_three, second_four, third_four, last_four, fourth_five, last_five}

-- One step further.
pub step_on : (g : Grammar) (path : List ℕ) (h i : Grammar) (k : ℕ) → node_at g path ≡ Some h → child h k ≡ Some i → node_at g (path ++ k ∷ []) ≡ Some i
step_on g [] h i k e f = (let same : g ≡ h = cc in ap (λ o. if_some o (λ inside. Some inside)) (ap (λ x. child x k) same ∙ f))
step_on g (j ∷ path) h i k e f = by (child g j) e (λ inside q. step_on inside path h i k q f)
  where
    by : (o : Option Grammar) → if_some o (λ inside. node_along child inside path) ≡ Some h → ((inside : Grammar) → node_at inside path ≡ Some h → node_at inside (path ++ k ∷ []) ≡ Some i) → if_some o (λ inside. node_along child inside (path ++ k ∷ [])) ≡ Some i
    by None q again = cc
    by (Some inside) q again = again inside q

plus_zero : (k : ℕ) → k + 0 ≡ k
plus_zero k = omega arith

module _ (root : Grammar) (tree : IsTree root) where
  -- the nodes of these fields, the first of which has number k, stand inside a node at the path
  abbrev Inside : List ℕ → ℕ → (ℕ → Option Grammar) → Type 0
  Inside path k at = (i : ℕ) (g : Grammar) → at i ≡ Some g → node_at root (path ++ (k + i) ∷ []) ≡ Some g

  at_first : (path : List ℕ) (k : ℕ) (at : ℕ → Option Grammar) (g : Grammar) → Inside path k at → at 0 ≡ Some g → node_at root (path ++ k ∷ []) ≡ Some g
  at_first path k at g inside e = sym (ap (λ n. node_at root (path ++ n ∷ [])) (plus_zero k)) ∙ inside 0 g e

  at_next : (path : List ℕ) (k : ℕ) (at next : ℕ → Option Grammar) → Inside path k at → ((i : ℕ) → at (suc i) ≡ next i) → Inside path (suc k) next
  at_next path k at next inside same i g e = sym (ap (λ n. node_at root (path ++ n ∷ [])) (moved k i)) ∙ inside (suc i) g (same i ∙ e)
    where
      moved : (k i : ℕ) → k + suc i ≡ suc k + i
      moved k i = omega arith

  from_zero : (path : List ℕ) (h : Grammar) (at : ℕ → Option Grammar) → node_at root path ≡ Some h → ((i : ℕ) → child h i ≡ at i) → Inside path 0 at
  from_zero path h at leads same i g e = subst (λ (n : ℕ). node_at root (path ++ n ∷ []) ≡ Some g) (zero_on i) (step_on root path h g i leads (same i ∙ e))
    where
      zero_on : (i : ℕ) → i ≡ 0 + i
      zero_on i = omega arith

  mutual
    can_list : (g : Grammar) (path : List ℕ) (n : ℕ) (around : List ℕ) (ks : Known) → node_at root path ≡ Some g → Sound root n around ks g → CanList n g
    can_list (node align form) path n around ks leads s = (second_three s, form_can_list align form path n around ks leads (last_three s))

    form_can_list : (align : ℕ) (form : Form) (path : List ℕ) (n : ℕ) (around : List ℕ) (ks : Known) → node_at root path ≡ Some (node align form) → FormSound root n around ks form → FormCanList n form
    form_can_list align (num leaf) path n around ks leads s = tt
    form_can_list align (octets z) path n around ks leads s = tt
    form_can_list align (bits z) path n around ks leads s = tt
    form_can_list align (text leaf) path n around ks leads s = first_two s
    form_can_list align (seq fs home) path n around ks leads s = (few (first_two s), fields_can_list fs path 0 (suc n) (home ++ around) ks (from_zero path (node align (seq fs home)) (field_at fs) leads (λ i. refl)) (last_two s))
      where
        few : SequenceSound root around ks fs home → Rattle.acn_grammar.specs.Sound.field_count fs ≤ MOST_NODES
        few r = r.few_fields
    form_can_list align (list z g) path n around ks leads s = can_list g (path ++ 0 ∷ []) (suc n) around ks (step_on root path (node align (list z g)) g 0 leads refl) (last_five s)
    form_can_list align (choice cases rule) path n around ks leads s = (second_four s, cases_can_list cases path 0 (suc n) around ks (from_zero path (node align (choice cases rule)) (alternative_at cases) leads (λ i. refl)) (last_four s))
    form_can_list align (contained z g) path n around ks leads s =
        let inside = step_on root path (node align (contained z g)) g 0 leads refl in
        (record { root = root; path = path ++ 0 ∷ []; formed = tree; leads = inside }, can_list g (path ++ 0 ∷ []) (suc n) around ks inside (last_four s))

    fields_can_list : (fs : Fields) (path : List ℕ) (k n : ℕ) (around : List ℕ) (ks : Known) → Inside path k (field_at fs) → FieldsSound root n around ks fs → FieldsCanList n fs
    fields_can_list no_fields path k n around ks inside s = tt
    fields_can_list (component m g p def own fs) path k n around ks inside s = (
      can_list g (path ++ k ∷ []) n around ks (at_first path k (field_at (component m g p def own fs)) g inside refl) (fourth_five s),
      fields_can_list fs path (suc k) n around (choose_known p ks (with_own own (after ks g))) (at_next path k (field_at (component m g p def own fs)) (field_at fs) inside (λ i. refl)) (last_five s),
    )
    fields_can_list (inserted m g (Some t) fs) path k n around ks inside s = (
      can_list g (path ++ k ∷ []) n around ks (at_first path k (field_at (inserted m g (Some t) fs)) g inside refl) (third_four s),
      fields_can_list fs path (suc k) n around (with_slot t ks) (at_next path k (field_at (inserted m g (Some t) fs)) (field_at fs) inside (λ i. refl)) (last_four s),
    )
    fields_can_list (inserted m g None fs) path k n around ks inside s = (
      can_list g (path ++ k ∷ []) n around ks (at_first path k (field_at (inserted m g None fs)) g inside refl) (second_three s),
      fields_can_list fs path (suc k) n around ks (at_next path k (field_at (inserted m g None fs)) (field_at fs) inside (λ i. refl)) (last_three s),
    )

    cases_can_list : (cases : Alternatives) (path : List ℕ) (k n : ℕ) (around : List ℕ) (ks : Known) → Inside path k (alternative_at cases) → AlternativesSound root n around ks cases → AlternativesCanList n cases
    cases_can_list no_alternatives path k n around ks inside s = tt
    cases_can_list (alternative m g ts more) path k n around ks inside s = (
      can_list g (path ++ k ∷ []) n around ks (at_first path k (alternative_at (alternative m g ts more)) g inside refl) (second_three s),
      cases_can_list more path (suc k) n around ks (at_next path k (alternative_at (alternative m g ts more)) (alternative_at more) inside (λ i. refl)) (last_three s),
    )

  pub root_can_list : (around : List ℕ) (ks : Known) → Sound root 0 around ks root → CanList 0 root
  root_can_list around ks s = can_list root [] 0 around ks refl s
