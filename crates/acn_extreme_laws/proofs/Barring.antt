-- Which slots are open at the lists round the nodes of a grammar.
use Rattle.std.proofs.Common.{◌≡◌, ℕ, suc, ◌+◌, true, List, [], ◌∷◌, ◌++◌, sym, ap, ◌∙◌, arith, append_assoc, append-nil}
use Rattle.std.proofs.lemmas.Bool.{or_right}
use Rattle.std.specs.List.{AllByRecursion}
use Rattle.acn_grammar.specs.Grammar.{Grammar, Form, Fields, Alternatives, node, num, octets, bits, text, seq, list, choice, contained, no_fields, component, inserted, no_alternatives, alternative}
use Rattle.acn_grammar.specs.Tree.{holds}
use Rattle.acn_grammar.specs.Walk.{Stand, Role, an_element, a_content, an_inserted, component_role, alternative_role, nodes, form_nodes, field_nodes, alternative_nodes}
use Rattle.acn_grammar.specs.declared.node.ChoiceRule.{ChoiceRule}
use Rattle.acn_grammar.proofs.SlotLists.{holds-append}
use Rattle.acn_extreme_laws.specs.Single.{barred_in, fields_barred, cases_barred, barred_at, is_list}

all_joined : {A : Type 0} (P : A → Type 0) (xs ys : List A) → AllByRecursion P xs → AllByRecursion P ys → AllByRecursion P (xs ++ ys)
all_joined P [] ys h k = k
all_joined P (x ∷ xs) ys h k = (h.0, all_joined P xs ys h.1 k)

plus_zero : (i : ℕ) → i ≡ i + 0
plus_zero i = omega arith

pub from_zero : (j : ℕ) → 0 + j ≡ j
from_zero j = omega arith

plus_suc : (i j : ℕ) → suc i + j ≡ i + suc j
plus_suc i j = omega arith

module _ (root : Grammar) where
  -- what is barred from a path on is what is barred in the node there
  abbrev pub From : List ℕ → Grammar → (around barred : List ℕ) → Type 0
  From p g around barred = (r : List ℕ) → barred_at root (p ++ r) ≡ barred_in g around barred r

  abbrev pub FromFields : List ℕ → ℕ → Fields → (around barred : List ℕ) → Type 0
  FromFields p i fs around barred = (j : ℕ) (r : List ℕ) → barred_at root (p ++ (i + j) ∷ r) ≡ fields_barred fs around barred j r

  abbrev pub FromCases : List ℕ → ℕ → Alternatives → (around barred : List ℕ) → Type 0
  FromCases p i cases around barred = (j : ℕ) (r : List ℕ) → barred_at root (p ++ (i + j) ∷ r) ≡ cases_barred cases around barred j r

  -- one step on
  pub deeper : (p : List ℕ) (k : ℕ) (r : List ℕ) → barred_at root ((p ++ k ∷ []) ++ r) ≡ barred_at root (p ++ k ∷ r)
  deeper p k r = ap (barred_at root) (append_assoc p (k ∷ []) r)

  pub first_field : (p : List ℕ) (i : ℕ) (r : List ℕ) → barred_at root ((p ++ i ∷ []) ++ r) ≡ barred_at root (p ++ (i + 0) ∷ r)
  first_field p i r = deeper p i r ∙ ap (λ k. barred_at root (p ++ k ∷ r)) (plus_zero i)

  pub later_field : (p : List ℕ) (i j : ℕ) (r : List ℕ) → barred_at root (p ++ (suc i + j) ∷ r) ≡ barred_at root (p ++ (i + suc j) ∷ r)
  later_field p i j r = ap (λ k. barred_at root (p ++ k ∷ r)) (plus_suc i j)

  -- a slot that is open at a list, at each node inside it
  module _ (s : ℕ) where
    abbrev Barred : Stand → Type 0
    Barred at = holds (barred_at root at.path) s ≡ true

    open_inside : (home around : List ℕ) → holds around s ≡ true → holds (home ++ around) s ≡ true
    open_inside home around h = holds-append home around s ∙ or_right (holds home s) (holds around s) h

    mutual
      pub node_barred : (role : Role) (p around barred : List ℕ) (g : Grammar) → holds around s ≡ true → holds barred s ≡ true → From p g around barred → AllByRecursion Barred (nodes role p around g)
      node_barred role p around barred (node a form) h k f =
          (ap (λ z. holds z s) (ap (barred_at root) (sym (append-nil p)) ∙ f []) ∙ k, form_barred_all p around barred form a h k f)

      form_barred_all : (p around barred : List ℕ) (form : Form) (a : ℕ) → holds around s ≡ true → holds barred s ≡ true → From p (node a form) around barred → AllByRecursion Barred (form_nodes p around form)
      form_barred_all p around barred (num l) a h k f = tt
      form_barred_all p around barred (octets z) a h k f = tt
      form_barred_all p around barred (bits z) a h k f = tt
      form_barred_all p around barred (text l) a h k f = tt
      form_barred_all p around barred (seq fs home) a h k f = fields_barred_all p (home ++ around) barred 0 fs (open_inside home around h) k (λ j r. ap (λ i. barred_at root (p ++ i ∷ r)) (from_zero j) ∙ f (j ∷ r))
      form_barred_all p around barred (list z g) a h k f = node_barred an_element (p ++ 0 ∷ []) around around g h h (λ r. deeper p 0 r ∙ f (0 ∷ r))
      form_barred_all p around barred (choice cases rule) a h k f = cases_barred_all rule p around barred 0 cases h k (λ j r. ap (λ i. barred_at root (p ++ i ∷ r)) (from_zero j) ∙ f (j ∷ r))
      form_barred_all p around barred (contained z g) a h k f = node_barred a_content (p ++ 0 ∷ []) around barred g h k (λ r. deeper p 0 r ∙ f (0 ∷ r))

      fields_barred_all : (p around barred : List ℕ) (i : ℕ) (fs : Fields) → holds around s ≡ true → holds barred s ≡ true → FromFields p i fs around barred → AllByRecursion Barred (field_nodes p around i fs)
      fields_barred_all p around barred i no_fields h k f = tt
      fields_barred_all p around barred i (component n g pr def own fs) h k f =
          all_joined Barred (nodes (component_role n pr def own) (p ++ i ∷ []) around g) (field_nodes p around (suc i) fs)
          (node_barred (component_role n pr def own) (p ++ i ∷ []) around barred g h k (λ r. first_field p i r ∙ f 0 r))
          (fields_barred_all p around barred (suc i) fs h k (λ j r. later_field p i j r ∙ f (suc j) r))
      fields_barred_all p around barred i (inserted n g slot fs) h k f =
          all_joined Barred (nodes (an_inserted n slot) (p ++ i ∷ []) around g) (field_nodes p around (suc i) fs)
          (node_barred (an_inserted n slot) (p ++ i ∷ []) around barred g h k (λ r. first_field p i r ∙ f 0 r))
          (fields_barred_all p around barred (suc i) fs h k (λ j r. later_field p i j r ∙ f (suc j) r))

      cases_barred_all : (rule : ChoiceRule) (p around barred : List ℕ) (i : ℕ) (cases : Alternatives) → holds around s ≡ true → holds barred s ≡ true → FromCases p i cases around barred → AllByRecursion Barred (alternative_nodes rule p around i cases)
      cases_barred_all rule p around barred i no_alternatives h k f = tt
      cases_barred_all rule p around barred i (alternative n g ts more) h k f =
          all_joined Barred (nodes (alternative_role n ts rule) (p ++ i ∷ []) around g) (alternative_nodes rule p around (suc i) more)
          (node_barred (alternative_role n ts rule) (p ++ i ∷ []) around barred g h k (λ r. first_field p i r ∙ f 0 r))
          (cases_barred_all rule p around barred (suc i) more h k (λ j r. later_field p i j r ∙ f (suc j) r))

  -- at each node, what is barred from its path on is what is barred in it
  abbrev pub Placed : Stand → Type 0
  Placed at = (barred : List ℕ) × From at.path (node at.align at.form) at.around barred

  mutual
    pub node_placed : (role : Role) (p around barred : List ℕ) (g : Grammar) → From p g around barred → AllByRecursion Placed (nodes role p around g)
    node_placed role p around barred (node a form) f = ((barred, f), form_placed p around barred form a f)

    form_placed : (p around barred : List ℕ) (form : Form) (a : ℕ) → From p (node a form) around barred → AllByRecursion Placed (form_nodes p around form)
    form_placed p around barred (num l) a f = tt
    form_placed p around barred (octets z) a f = tt
    form_placed p around barred (bits z) a f = tt
    form_placed p around barred (text l) a f = tt
    form_placed p around barred (seq fs home) a f = fields_placed p (home ++ around) barred 0 fs (λ j r. ap (λ i. barred_at root (p ++ i ∷ r)) (from_zero j) ∙ f (j ∷ r))
    form_placed p around barred (list z g) a f = node_placed an_element (p ++ 0 ∷ []) around around g (λ r. deeper p 0 r ∙ f (0 ∷ r))
    form_placed p around barred (choice cases rule) a f = cases_placed rule p around barred 0 cases (λ j r. ap (λ i. barred_at root (p ++ i ∷ r)) (from_zero j) ∙ f (j ∷ r))
    form_placed p around barred (contained z g) a f = node_placed a_content (p ++ 0 ∷ []) around barred g (λ r. deeper p 0 r ∙ f (0 ∷ r))

    fields_placed : (p around barred : List ℕ) (i : ℕ) (fs : Fields) → FromFields p i fs around barred → AllByRecursion Placed (field_nodes p around i fs)
    fields_placed p around barred i no_fields f = tt
    fields_placed p around barred i (component n g pr def own fs) f =
        all_joined Placed (nodes (component_role n pr def own) (p ++ i ∷ []) around g) (field_nodes p around (suc i) fs)
        (node_placed (component_role n pr def own) (p ++ i ∷ []) around barred g (λ r. first_field p i r ∙ f 0 r)) (fields_placed p around barred (suc i) fs (λ j r. later_field p i j r ∙ f (suc j) r))
    fields_placed p around barred i (inserted n g slot fs) f =
        all_joined Placed (nodes (an_inserted n slot) (p ++ i ∷ []) around g) (field_nodes p around (suc i) fs)
        (node_placed (an_inserted n slot) (p ++ i ∷ []) around barred g (λ r. first_field p i r ∙ f 0 r)) (fields_placed p around barred (suc i) fs (λ j r. later_field p i j r ∙ f (suc j) r))

    cases_placed : (rule : ChoiceRule) (p around barred : List ℕ) (i : ℕ) (cases : Alternatives) → FromCases p i cases around barred → AllByRecursion Placed (alternative_nodes rule p around i cases)
    cases_placed rule p around barred i no_alternatives f = tt
    cases_placed rule p around barred i (alternative n g ts more) f =
        all_joined Placed (nodes (alternative_role n ts rule) (p ++ i ∷ []) around g) (alternative_nodes rule p around (suc i) more)
        (node_placed (alternative_role n ts rule) (p ++ i ∷ []) around barred g (λ r. first_field p i r ∙ f 0 r)) (cases_placed rule p around barred (suc i) more (λ j r. later_field p i j r ∙ f (suc j) r))

  -- the slots open at a list are barred at each node inside it
  pub list_bars : (at : Stand) (s : ℕ) → Placed at → is_list at.form ≡ true → holds at.around s ≡ true → AllByRecursion (λ x. holds (barred_at root x.path) s ≡ true) (form_nodes at.path at.around at.form)
  list_bars at s placed is h = by at.form placed.1 is
    where
      by : (form : Form) → From at.path (node at.align form) at.around placed.0 → is_list form ≡ true → AllByRecursion (λ x. holds (barred_at root x.path) s ≡ true) (form_nodes at.path at.around form)
      by (list z g) f e = node_barred s an_element (at.path ++ 0 ∷ []) at.around at.around g h h (λ r. deeper at.path 0 r ∙ f (0 ∷ r))
      by (num l) f e = cc
      by (octets z) f e = cc
      by (bits z) f e = cc
      by (text l) f e = cc
      by (seq fs home) f e = cc
      by (choice cases rule) f e = cc
      by (contained z g) f e = cc
