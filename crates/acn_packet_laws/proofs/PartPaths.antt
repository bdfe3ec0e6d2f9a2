-- The part of a value at a path is of the node that the path leads to.
use Rattle.std.proofs.Common.{◌≡◌, ℕ, zero, suc, ◌+◌, Bool, true, false, List, [], ◌∷◌, Option, Some, None, refl, sym, ap, ◌∙◌, arith, nat_eq}
use Rattle.std.specs.Prelude.{if◌then◌else◌}
use Rattle.std.proofs.lemmas.Bool.{eqb-true}
use Rattle.acn_grammar.specs.Grammar.{Grammar, Form, Fields, Alternatives, Data, Places, Elements, node, seq, list, choice, contained, no_fields, component, inserted, no_alternatives, alternative, record_of, list_of, alt, empty, filled, no_places, no_elements, element}
use Rattle.acn_grammar.specs.PartAt.{Occurrence, occurrence, part_at, element_part, form_part, field_part, alternative_part}
use Rattle.acn_grammar.specs.Paths.{node_on, field_at, alternative_at, if_some}
use Rattle.acn_packet_laws.specs.Laws.{PartsAreOfNodes}
use Rattle.acn_packet_laws.proofs.Homes.{truth}
use Rattle.acn_packet_laws.proofs.AskHomes.{if_yes, if_no}
use Rattle.acn_packet_laws.proofs.NodeLaws.{some_one}

-- a path whose first step is the number of a field from k on
record FieldOn (fs : Fields) (k m : ℕ) (path : List ℕ) (g : Grammar) : Type 0 where
  pub over : ℕ
  pub inside : Grammar
  pub number : m ≡ k + over
  pub found : field_at fs over ≡ Some inside
  pub leads : node_on inside path ≡ Some g

record CaseOn (cases : Alternatives) (i : ℕ) (path : List ℕ) (g : Grammar) : Type 0 where
  pub inside : Grammar
  pub found : alternative_at cases i ≡ Some inside
  pub leads : node_on inside path ≡ Some g

same_occurrence : (g h : Grammar) (d e : Data) → Some (occurrence g d) ≡ Some (occurrence h e) → g ≡ h
same_occurrence g h d e is = ap (λ (o : Occurrence). o.0) (some_one (occurrence g d) (occurrence h e) is)

-- what a test chooses, where nothing is chosen otherwise
chosen : {F : Type 0} (b : Bool) (x : Option Occurrence) (o : Occurrence) → (if b then x else None) ≡ Some o → (b ≡ true → x ≡ Some o → F) → F
chosen true x o e f = f refl e
chosen false x o e f = cc

element_on : {F : Type 0} (each : Data → Option Occurrence) (o : Occurrence) → ((d : Data) → each d ≡ Some o → F) → (k : ℕ) (es : Elements) (m : ℕ) → element_part each k es m ≡ Some o → F
element_on each o f k no_elements m e = cc
element_on {F} each o f k (element d es) m e = truth {F = F} (nat_eq m k)
    (λ y. f d (sym (if_yes (nat_eq m k) (each d) (element_part each (suc k) es m) y) ∙ e))
    (λ n. element_on {F = F} each o f (suc k) es m (sym (if_no (nat_eq m k) (each d) (element_part each (suc k) es m) n) ∙ e))

behind_field : (fs rest : Fields) (k m : ℕ) (path : List ℕ) (g : Grammar) → ((j : ℕ) → field_at fs (suc j) ≡ field_at rest j) → FieldOn rest (suc k) m path g → FieldOn fs k m path g
behind_field fs rest k m path g same t = record { over = suc t.over; inside = t.inside; number = omega (arith, t.number); found = same t.over ∙ t.found; leads = t.leads }

mutual
  part_on : (root : Grammar) (d : Data) (path : List ℕ) (g : Grammar) (part : Data) → part_at root d path ≡ Some (occurrence g part) → node_on root path ≡ Some g
  part_on (node align form) d [] g part e = ap Some (same_occurrence (node align form) g d part e)
  part_on (node align form) d (m ∷ path) g part e = form_on form align d m path g part e

  form_on : (form : Form) (align : ℕ) (d : Data) (m : ℕ) (path : List ℕ) (g : Grammar) (part : Data) → form_part form d m path ≡ Some (occurrence g part) → node_on (node align form) (m ∷ path) ≡ Some g
  form_on (seq fields home) align (record_of ps) m path g part e =
      let t = fields_on fields 0 ps m path g part e in
      let same : m ≡ t.over = omega (arith, t.number) in
      ap (λ o. if_some o (λ inside. node_on inside path)) (ap (field_at fields) same ∙ t.found) ∙ t.leads
  form_on (list sizing one) align (list_of es) m path g part e =
      element_on {F = node_on one path ≡ Some g} (λ d. part_at one d path) (occurrence g part) (λ d is. part_on one d path g part is) 0 es m e
  form_on (choice cases rule) align (alt i d) m path g part e =
      chosen {F = node_on (node align (choice cases rule)) (m ∷ path) ≡ Some g} (nat_eq m i) (alternative_part cases i d path) (occurrence g part) e
      (λ y is. let t = case_on cases i d path g part is in ap (λ o. if_some o (λ inside. node_on inside path)) (ap (alternative_at cases) (eqb-true m i y) ∙ t.found) ∙ t.leads)
  form_on (contained sizing one) align d m path g part e =
      chosen {F = node_on (node align (contained sizing one)) (m ∷ path) ≡ Some g} (nat_eq m 0) (part_at one d path) (occurrence g part) e
      (λ y is. ap (λ n. node_on (node align (contained sizing one)) (n ∷ path)) (eqb-true m 0 y) ∙ part_on one d path g part is)
  form_on _ align d m path g part e = cc

  fields_on : (fs : Fields) (k : ℕ) (ps : Places) (m : ℕ) (path : List ℕ) (g : Grammar) (part : Data) → field_part fs k ps m path ≡ Some (occurrence g part) → FieldOn fs k m path g
  fields_on no_fields k ps m path g part e = cc
  fields_on (component name one presence default own fs) k (filled d ps) m path g part e =
      truth {F = FieldOn (component name one presence default own fs) k m path g} (nat_eq m k)
      (λ y. let same = eqb-true m k y in record { over = zero; inside = one; number = omega arith; found = refl; leads = part_on one d path g part (sym (if_yes (nat_eq m k) (part_at one d path) (field_part fs (suc k) ps m path) y) ∙ e) })
      (λ n. behind_field (component name one presence default own fs) fs k m path g (λ j. refl) (fields_on fs (suc k) ps m path g part (sym (if_no (nat_eq m k) (part_at one d path) (field_part fs (suc k) ps m path) n) ∙ e)))
  fields_on (component name one presence default own fs) k (empty ps) m path g part e =
      truth {F = FieldOn (component name one presence default own fs) k m path g} (nat_eq m k)
      (λ y. let none = sym (if_yes (nat_eq m k) None (field_part fs (suc k) ps m path) y) ∙ e in cc)
      (λ n. behind_field (component name one presence default own fs) fs k m path g (λ j. refl) (fields_on fs (suc k) ps m path g part (sym (if_no (nat_eq m k) None (field_part fs (suc k) ps m path) n) ∙ e)))
  fields_on (component name one presence default own fs) k no_places m path g part e = cc
  fields_on (inserted name one slot fs) k ps m path g part e =
      truth {F = FieldOn (inserted name one slot fs) k m path g} (nat_eq m k)
      (λ y. let none = sym (if_yes (nat_eq m k) None (field_part fs (suc k) ps m path) y) ∙ e in cc)
      (λ n. behind_field (inserted name one slot fs) fs k m path g (λ j. refl) (fields_on fs (suc k) ps m path g part (sym (if_no (nat_eq m k) None (field_part fs (suc k) ps m path) n) ∙ e)))

  case_on : (cases : Alternatives) (i : ℕ) (d : Data) (path : List ℕ) (g : Grammar) (part : Data) → alternative_part cases i d path ≡ Some (occurrence g part) → CaseOn cases i path g
  case_on no_alternatives i d path g part e = cc
  case_on (alternative name one tests more) zero d path g part e = record { inside = one; found = refl; leads = part_on one d path g part e }
  case_on (alternative name one tests more) (suc i) d path g part e = let t = case_on more i d path g part e in record { inside = t.inside; found = t.found; leads = t.leads }

pub parts_are_of_nodes : PartsAreOfNodes
parts_are_of_nodes root d path g part e = part_on root d path g part e
