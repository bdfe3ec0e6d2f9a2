-- Lists whose end can't be told from an element.
use Rattle.std.proofs.Common.{◌≡◌, ℕ, zero, suc, ◌+◌, ◌<◌, ◌≤◌, drop, get_or, Bool, true, false, not, ◌&&◌, List, [], ◌∷◌, ◌++◌, length, map, Option, Some, None, refl, sym, ap, ◌∙◌, subst, arith, nat_eq}
use Rattle.std.specs.Prelude.{slice_get, option_map, if◌then◌else◌}
use Rattle.std.specs.List.{list_all}
use Rattle.std.proofs.lemmas.List.{drop_more}
use Rattle.acn_grammar.specs.Check.{CheckFault, terminator_ambiguous, Evidence, NodeAt, number_of_fault, is_wide, has_no_table, is_lead, lead, form_lead, fields_lead, LeadAmbiguous, EndAmbiguous, ListAmbiguous}
use Rattle.acn_grammar.specs.Fails.{presence_count}
use Rattle.acn_grammar.specs.Grammar.{Grammar, Form, Fields, Alternatives, node, num, octets, bits, text, seq, list, choice, contained, no_fields, component, inserted, no_alternatives, alternative}
use Rattle.acn_grammar.specs.Leaves.{num_fine, sizes_fine, list_rule_fine, is_pattern}
use Rattle.acn_grammar.specs.Length.{ending}
use Rattle.acn_grammar.specs.Tree.{IsTree}
use Rattle.acn_grammar.specs.Walk.{Stand, Role, root_node, component_role, an_inserted, alternative_role, an_element, a_content, nodes, form_nodes, field_nodes, alternative_nodes, nodes_of}
use Rattle.acn_grammar.specs.declared.node.ChoiceRule.{ChoiceRule}
use Rattle.acn_grammar.specs.declared.node.NumLeaf.{NumLeaf}
use Rattle.acn_grammar.specs.declared.node.Presence.TheVariants.{Always, Bit, When}
use Rattle.acn_grammar.specs.declared.node.Sizing.{Sizing}
use Rattle.acn_grammar.specs.declared.node.Table.{Table}
use Rattle.acn_grammar.proofs.SpanLaw.{Fine, FormFine, FieldsFine, AlternativesFine}
use Rattle.acn_grammar.proofs.TreeRules.{tree_fine}
use Rattle.acn_check.specs.Facts.{seen, facts_of}
use Rattle.acn_check.specs.declared.lines.Line.{Line}
use Rattle.acn_check.specs.First.{given, only_if, ambiguous_in, ambiguous_at, end_lead, form_lead_fine, leads_fine}
use Rattle.acn_check.specs.Order.{lines_of}
use Rattle.acn_leads.specs.Begins.{not_told, lead_fine}
use Rattle.acn_leads.proofs.LeadLaw.{Good, lead_good, told_to, told_from}
use Rattle.acn_check.proofs.KindLaws.{PlainLaw}
use Rattle.acn_check.proofs.KindUses.{only_true, only_none}
use Rattle.acn_check.proofs.Numbers.{only_terminator_ambiguous, plain_tail}
use Rattle.std.proofs.lemmas.Bool.{and_parts, not-true}
use Rattle.acn_grammar.proofs.TextRules.{some_bits}
use Rattle.acn_check.proofs.TreeFits.{Each, each_both}

-- The forms inside a grammar keep their rules.

abbrev Formed : Stand → Type 0
Formed at = FormFine at.form

mutual
  node_formed : (g : Grammar) (role : Role) (path around : List ℕ) → Fine g → Each Formed (nodes role path around g)
  node_formed (node align form) role path around f = (f.1, form_formed form path around f.1)

  form_formed : (form : Form) (path around : List ℕ) → FormFine form → Each Formed (form_nodes path around form)
  form_formed (num leaf) path around f = tt
  form_formed (octets sizing) path around f = tt
  form_formed (bits sizing) path around f = tt
  form_formed (text leaf) path around f = tt
  form_formed (seq fields home) path around f = fields_formed fields path (home ++ around) 0 f
  form_formed (list sizing g) path around f = node_formed g an_element (path ++ 0 ∷ []) around f.1
  form_formed (choice cases rule) path around f = cases_formed cases rule path around 0 f
  form_formed (contained sizing g) path around f = node_formed g a_content (path ++ 0 ∷ []) around f.1

  fields_formed : (fs : Fields) (path around : List ℕ) (k : ℕ) → FieldsFine fs → Each Formed (field_nodes path around k fs)
  fields_formed no_fields path around k f = tt
  fields_formed (component name g presence default own fs) path around k f =
      each_both Formed (nodes (component_role name presence default own) (path ++ k ∷ []) around g) (field_nodes path around (suc k) fs) (node_formed g (component_role name presence default own) (path ++ k ∷ []) around f.0) (fields_formed fs path around (suc k) f.1)
  fields_formed (inserted name g slot fs) path around k f =
      each_both Formed (nodes (an_inserted name slot) (path ++ k ∷ []) around g) (field_nodes path around (suc k) fs) (node_formed g (an_inserted name slot) (path ++ k ∷ []) around f.0) (fields_formed fs path around (suc k) f.1)

  cases_formed : (cases : Alternatives) (rule : ChoiceRule) (path around : List ℕ) (k : ℕ) → AlternativesFine cases → Each Formed (alternative_nodes rule path around k cases)
  cases_formed no_alternatives rule path around k f = tt
  cases_formed (alternative name g tests more) rule path around k f =
      each_both Formed (nodes (alternative_role name tests rule) (path ++ k ∷ []) around g) (alternative_nodes rule path around (suc k) more) (node_formed g (alternative_role name tests rule) (path ++ k ∷ []) around f.0) (cases_formed more rule path around (suc k) f.1)

each_at : {A : Type 0} (P : A → Type 0) (l : List A) (k : ℕ) (x : A) → Each P l → slice_get l k ≡ Some x → P x
each_at P [] k x e h = cc
each_at P (y ∷ l) zero x e h = (let same : y ≡ x = cc in subst P same e.0)
each_at P (y ∷ l) (suc k) x e h = each_at P l k x e.1 h

lead_is_fine : (n : ℕ) (o : Option NumLeaf) → ((leaf : NumLeaf) → o ≡ Some leaf → Good n leaf) → lead_fine o ≡ true
lead_is_fine n None good = refl
lead_is_fine n (Some leaf) good = (good leaf refl).0

end_is_fine : (o : Option (List Bool)) (g : Grammar) → Fine g → lead_fine (end_lead o g) ≡ true
end_is_fine None g f = refl
end_is_fine (Some p) g f = lead_is_fine (length p) (lead (length p) g) (λ leaf h. lead_good (length p) g leaf f h)

form_is_fine : (form : Form) → FormFine form → form_lead_fine form ≡ true
form_is_fine (list sizing g) f = end_is_fine (ending sizing.rule) g f.1
form_is_fine (num leaf) f = refl
form_is_fine (octets sizing) f = refl
form_is_fine (bits sizing) f = refl
form_is_fine (text leaf) f = refl
form_is_fine (seq fields home) f = refl
form_is_fine (choice cases rule) f = refl
form_is_fine (contained sizing g) f = refl

stands_fine : (l : List Stand) → Each Formed l → list_all leads_fine (map seen l) ≡ true
stands_fine [] e = refl
stands_fine (at ∷ l) e = rw (form_is_fine at.form e.0, stands_fine l e.1) refl

pub leads_are_fine : (root : Grammar) → IsTree root → list_all leads_fine (lines_of root) ≡ true
leads_are_fine root tree = stands_fine (nodes_of root) (node_formed root root_node [] [] (tree_fine root tree))

-- a turn of the loop over lines
pub fine_turn : (lines : List Line) (i : ℕ) (line : Line) → i < length lines → line ≡ get_or lines i line → list_all leads_fine (map facts_of (drop i lines)) ≡ true → leads_fine (facts_of line) ≡ true
fine_turn lines i line h e f =
    let there = subst (λ (xs : List Line). list_all leads_fine (map facts_of xs) ≡ true) (drop_more lines i line h ∙ ap (λ (x : Line). x ∷ drop (i + 1) lines) (sym e)) f in
    (and_parts (leads_fine (facts_of line)) (list_all leads_fine (map facts_of (drop (i + 1) lines))) there).0

-- The fault.

end_take : (path : List ℕ) (sizing : Sizing) (o : Option (List Bool)) (g : Grammar) (f : CheckFault) → Fine g → list_rule_fine o sizing ≡ true
    → given o (λ p. only_if (not_told p (lead (length p) g)) (terminator_ambiguous path)) ≡ Some f → (terminator_ambiguous path ≡ f) × EndAmbiguous o g
end_take path sizing None g f fine rule e = cc
end_take path sizing (Some p) g f fine rule e =
    let t = only_true (not_told p (lead (length p) g)) (terminator_ambiguous path) f e in
    (t.1, told_to p (lead (length p) g) (some_bits p rule) (λ leaf h. lead_good (length p) g leaf fine h) t.0)

end_give : (path : List ℕ) (sizing : Sizing) (o : Option (List Bool)) (g : Grammar) → Fine g → list_rule_fine o sizing ≡ true → EndAmbiguous o g
    → given o (λ p. only_if (not_told p (lead (length p) g)) (terminator_ambiguous path)) ≡ None → ⊥
end_give path sizing None g fine rule a e = absurd a
end_give path sizing (Some p) g fine rule a e =
    only_none (not_told p (lead (length p) g)) (terminator_ambiguous path) (told_from p (lead (length p) g) (some_bits p rule) (λ leaf h. lead_good (length p) g leaf fine h) a) e

form_take : (path : List ℕ) (form : Form) (f : CheckFault) → FormFine form → ambiguous_in path form ≡ Some f → (terminator_ambiguous path ≡ f) × ListAmbiguous form
form_take path (list sizing g) f fine e = end_take path sizing (ending sizing.rule) g f fine.1 (and_parts (sizes_fine sizing.sizes) (list_rule_fine (ending sizing.rule) sizing) fine.0).1 e
form_take path (num leaf) f fine e = cc
form_take path (octets sizing) f fine e = cc
form_take path (bits sizing) f fine e = cc
form_take path (text leaf) f fine e = cc
form_take path (seq fields home) f fine e = cc
form_take path (choice cases rule) f fine e = cc
form_take path (contained sizing g) f fine e = cc

form_give : (path : List ℕ) (form : Form) → FormFine form → ListAmbiguous form → ambiguous_in path form ≡ None → ⊥
form_give path (list sizing g) fine a e = end_give path sizing (ending sizing.rule) g fine.1 (and_parts (sizes_fine sizing.sizes) (list_rule_fine (ending sizing.rule) sizing) fine.0).1 a e
form_give path (num leaf) fine a e = absurd a
form_give path (octets sizing) fine a e = absurd a
form_give path (bits sizing) fine a e = absurd a
form_give path (text leaf) fine a e = absurd a
form_give path (seq fields home) fine a e = absurd a
form_give path (choice cases rule) fine a e = absurd a
form_give path (contained sizing g) fine a e = absurd a

module _ (root : Grammar) (tree : IsTree root) where
  formed_at : (k : ℕ) (at : Stand) → NodeAt root k at → FormFine at.form
  formed_at k at is = each_at Formed (nodes_of root) k at (node_formed root root_node [] [] (tree_fine root tree)) is

  take_end : (k : ℕ) (at : Stand) (f : CheckFault) → NodeAt root k at → ambiguous_at k (seen at) ≡ Some f → (number_of_fault f ≡ 13) × Evidence root f k 0
  take_end k at f is e =
      let t = form_take at.path at.form f (formed_at k at is) e in
      (ap number_of_fault (sym t.0), subst (λ x. Evidence root x k 0) t.0 (record { at = at; is_at = is; path_is = refl; ambiguous = t.1 }))

  give_end : (f : CheckFault) (k u : ℕ) → number_of_fault f ≡ 13 → Evidence root f k u → (at : Stand) × NodeAt root k at × (ambiguous_at k (seen at) ≡ None → ⊥)
  give_end f k u is e =
      let o = only_terminator_ambiguous f is in
      let e' : Evidence root (terminator_ambiguous o.0) k u = subst (λ x. Evidence root x k u) o.1 e in
      (e'.at, e'.is_at, λ none. form_give e'.at.path e'.at.form (formed_at k e'.at e'.is_at) e'.ambiguous none)

  pub ambiguous_law : PlainLaw root 13 ambiguous_at
  ambiguous_law = record {
    plain = λ f u is. plain_tail f u (λ four. absurd (omega arith)) (λ seven. absurd (omega arith));
    take = take_end;
    give = give_end;
  }
