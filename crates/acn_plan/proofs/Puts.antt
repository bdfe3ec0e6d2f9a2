-- Steps that are added, field by field and alternative by alternative.
use Rattle.std.proofs.Common.{◌≡◌, ℕ, suc, ◌+◌, ◌<◌, List, [], ◌∷◌, ◌++◌, length, drop, get_or, set, refl, sym, ap, ◌∙◌, arith, rules, append_assoc, length-append}
use Rattle.std.proofs.lemmas.List.{drop_more}
use Rattle.std.proofs.Math.Seq.{get_or-append_seam, set-append_seam}
use Rattle.acn_grammar.specs.Grammar.{Grammar, Form, Fields, Alternatives, node, num, octets, bits, text, seq, list, choice, contained, alternative}
use Rattle.acn_grammar.specs.View.{OneField, OneAlternative, alternative_of, a_component, an_inserted, fields_view, field_of, with_field, alternatives_view, grammar_of, form_of}
use Rattle.acn_grammar.specs.declared.node.Alternative.{Alternative, the_lemmas as alternative_lemmas}
use Rattle.acn_grammar.specs.declared.node.Node.{Node, the_lemmas as node_lemmas}
use Rattle.acn_grammar.specs.declared.node.Field.{Field}
use Rattle.acn_grammar.specs.declared.node.ChoiceRule.{ChoiceRule}
use Rattle.acn_plan.specs.Program.{form_numbers, with_numbers, open_act, open_step, ended}
use Rattle.acn_plan.specs.Steps.{count_of, form_count, fields_count, cases_count, case_numbers, act_of, node_steps, form_steps, field_steps, case_steps, one_field_steps, item_for}
use Rattle.acn_plan.specs.declared.step.Act.{Act}
use Rattle.acn_plan.specs.declared.step.Place.{Place}
use Rattle.acn_plan.specs.declared.step.Place.TheVariants as places
use Rattle.acn_plan.specs.declared.step.Step.{Step}
use Rattle.acn_grammar.proofs.Views.{view_node}
use Rattle.acn_plan.proofs.Backs.{node_length, form_length}

pub fields_from : (fs : List Field) (i : ℕ) (f : Field) → i < length fs → f ≡ get_or fs i f → fields_view (drop i fs) ≡ with_field (field_of f) (fields_view (drop (i + 1) fs))
fields_from fs i f h e = rw (drop_more fs i f h, ← e) refl

view_alternative : (a : Alternative) → ◌≡◌ {A = OneAlternative} (alternative_of a) (record { name = a.name; grammar = grammar_of a.node; tests = a.tests })
view_alternative a = search (rules, node_lemmas, alternative_lemmas)

pub cases_from : (cs : List Alternative) (i : ℕ) (c : Alternative) → i < length cs → c ≡ get_or cs i c → alternatives_view (drop i cs) ≡ alternative c.name (grammar_of c.node) c.tests (alternatives_view (drop (i + 1) cs))
cases_from cs i c h e = rw (drop_more cs i c h, ← e, view_alternative c) refl

-- a step that is put anew with its end
pub ends_at : (xs : List Step) (at : ℕ) (numbers : List ℕ) (n : ℕ) (here : Step) → here ≡ get_or xs at here → (front behind : List Step) (s : Step) → length front ≡ at → xs ≡ front ++ s ∷ behind → set xs at (ended here numbers n) ≡ front ++ ended s numbers n ∷ behind
ends_at xs at numbers n here e front behind s l w =
    (let same : here ≡ s = e ∙ (ap (λ (k : ℕ). get_or xs k here) (sym l) ∙ (ap (λ (ys : List Step). get_or ys (length front) here) w ∙ get_or-append_seam front s behind here)) in
    ap (λ (y : Step). set xs at (ended y numbers n)) same
    ∙ (ap (λ (k : ℕ). set xs k (ended s numbers n)) (sym l)
    ∙ (ap (λ (ys : List Step). set ys (length front) (ended s numbers n)) w
    ∙ set-append_seam front s behind (ended s numbers n))))

-- an act with the numbers of its alternatives' steps is that of its body
closed : (i : ℕ) (form : Form) → with_numbers (form_numbers i form) (open_act form) ≡ act_of i form
closed i (num leaf) = refl
closed i (octets sizing) = refl
closed i (bits sizing) = refl
closed i (text leaf) = refl
closed i (seq fs home) = refl
closed i (list sizing g) = refl
closed i (choice cases rule) = refl
closed i (contained sizing g) = refl

abbrev step_of : (align : ℕ) → Act → Place → (next : ℕ) → Step
step_of align act place next = record { align = align; act = act; place = place; next = next }

-- A step that is ended behind the steps of what is inside its node: they are all that the node has.
pub node_done : (root : Grammar) (p : Place) (n : Node) (old mid new last : List Step) (numbers : List ℕ) → mid ≡ old ++ open_step p (grammar_of n) ∷ [] → new ≡ mid ++ form_steps root (length mid) (form_of n.body) → numbers ≡ form_numbers (length mid) (form_of n.body)
    → ((front behind : List Step) (s : Step) → length front ≡ length old → new ≡ front ++ s ∷ behind → last ≡ front ++ ended s numbers (length new) ∷ behind) → last ≡ old ++ node_steps root p (length old) (grammar_of n)
node_done root p n old mid new last numbers e f g ends = rw (view_node n) (whole (rw (view_node n) at e))
  where
    whole : mid ≡ old ++ open_step p (node n.align (form_of n.body)) ∷ [] → last ≡ old ++ node_steps root p (length old) (node n.align (form_of n.body))
    whole h =
        (let o = open_step p (node n.align (form_of n.body)) in
        let fs = form_steps root (length mid) (form_of n.body) in
        let inside : length mid ≡ length old + 1 = ap length h ∙ length-append old (o ∷ []) in
        let all : new ≡ old ++ o ∷ fs = f ∙ (ap (λ (x : List Step). x ++ fs) h ∙ append_assoc old (o ∷ []) fs) in
        let act : with_numbers numbers (open_act (form_of n.body)) ≡ act_of (length old + 1) (form_of n.body) = ap (λ (ns : List ℕ). with_numbers ns (open_act (form_of n.body))) (g ∙ ap (λ (k : ℕ). form_numbers k (form_of n.body)) inside) ∙ closed (length old + 1) (form_of n.body) in
        let long : length new ≡ length old + suc (form_count (form_of n.body)) = omega (arith, ap length all, length-append old (o ∷ fs), form_length root (length mid) (form_of n.body)) in
        ends old fs o refl all
        ∙ (ap (λ (k : ℕ). old ++ ended o numbers k ∷ fs) long
        ∙ (ap (λ (a : Act). old ++ step_of n.align a p (length old + suc (form_count (form_of n.body))) ∷ fs) act
        ∙ ap (λ (k : ℕ). old ++ step_of n.align (act_of (length old + 1) (form_of n.body)) p (length old + suc (form_count (form_of n.body))) ∷ form_steps root k (form_of n.body)) inside)))

pub node_long : (root : Grammar) (p : Place) (n : Node) (old mid new : List Step) → mid ≡ old ++ open_step p (grammar_of n) ∷ [] → new ≡ mid ++ form_steps root (length mid) (form_of n.body) → length new ≡ length old + count_of (grammar_of n)
node_long root p n old mid new e f =
    (let one = ap length e ∙ length-append old (open_step p (grammar_of n) ∷ []) in
    let two = ap length f ∙ length-append mid (form_steps root (length mid) (form_of n.body)) in
    let inside = form_length root (length mid) (form_of n.body) in
    rw (view_node n) (omega (arith, one, two, inside)))

module _ (root : Grammar) where
  node_step : (p : Place) (g : Grammar) (others : ℕ → List Step) (mid new : List Step) → new ≡ mid ++ node_steps root p (length mid) g → new ++ others (length new) ≡ mid ++ (node_steps root p (length mid) g ++ others (length mid + count_of g))
  node_step p g others mid new e =
      (let l : length new ≡ length mid + count_of g = ap length e ∙ (length-append mid (node_steps root p (length mid) g) ∙ ap (λ (n : ℕ). length mid + n) (node_length root p (length mid) g)) in
      ap (λ (n : ℕ). new ++ others n) l ∙ (ap (λ (x : List Step). x ++ others (length mid + count_of g)) e ∙ append_assoc mid (node_steps root p (length mid) g) (others (length mid + count_of g))))

  node_more : (p : Place) (g : Grammar) (mid new : List Step) → new ≡ mid ++ node_steps root p (length mid) g → length new ≡ length mid + count_of g
  node_more p g mid new e = ap length e ∙ (length-append mid (node_steps root p (length mid) g) ∙ ap (λ (n : ℕ). length mid + n) (node_length root p (length mid) g))

  pub field_put : (f : OneField) (next : Fields) (mid new : List Step) → new ≡ mid ++ one_field_steps root (length mid) f → new ++ field_steps root (length new) next ≡ mid ++ field_steps root (length mid) (with_field f next)
  field_put (a_component name g presence default own) next mid new e = node_step (places.Component name presence default own) g (λ n. field_steps root n next) mid new e
  field_put (an_inserted name g slot) next mid new e = node_step (places.Inserted name slot) g (λ n. field_steps root n next) mid new e

  pub field_more : (f : OneField) (next : Fields) (mid new : List Step) → new ≡ mid ++ one_field_steps root (length mid) f → length new + fields_count next ≡ length mid + fields_count (with_field f next)
  field_more (a_component name g presence default own) next mid new e = omega (arith, node_more (places.Component name presence default own) g mid new e)
  field_more (an_inserted name g slot) next mid new e = omega (arith, node_more (places.Inserted name slot) g mid new e)

  pub case_put : (rule : ChoiceRule) (c : Alternative) (next : Alternatives) (mid new : List Step) → new ≡ mid ++ node_steps root (places.Alternative c.name c.tests (item_for root rule c.name)) (length mid) (grammar_of c.node)
      → (length new + cases_count next ≡ length mid + cases_count (alternative c.name (grammar_of c.node) c.tests next)) × (new ++ case_steps root rule (length new) next ≡ mid ++ case_steps root rule (length mid) (alternative c.name (grammar_of c.node) c.tests next))
  case_put rule c next mid new e = (omega (arith, node_more (places.Alternative c.name c.tests (item_for root rule c.name)) (grammar_of c.node) mid new e), node_step (places.Alternative c.name c.tests (item_for root rule c.name)) (grammar_of c.node) (λ n. case_steps root rule n next) mid new e)

  -- the number of an alternative behind those of others
  pub case_listed : (rule : ChoiceRule) (c : Alternative) (next : Alternatives) (mid new : List Step) (numbers all : List ℕ) → new ≡ mid ++ node_steps root (places.Alternative c.name c.tests (item_for root rule c.name)) (length mid) (grammar_of c.node) → all ≡ numbers ++ length mid ∷ []
      → all ++ case_numbers (length new) next ≡ numbers ++ case_numbers (length mid) (alternative c.name (grammar_of c.node) c.tests next)
  case_listed rule c next mid new numbers all e h =
      ap (λ (x : List ℕ). x ++ case_numbers (length new) next) h
      ∙ (append_assoc numbers (length mid ∷ []) (case_numbers (length new) next)
      ∙ ap (λ (k : ℕ). numbers ++ length mid ∷ case_numbers k next) (node_more (places.Alternative c.name c.tests (item_for root rule c.name)) (grammar_of c.node) mid new e))
