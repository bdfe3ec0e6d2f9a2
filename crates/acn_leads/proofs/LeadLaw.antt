-- for acn_check: leads keep their rules, and a pattern can't be told from a lead exactly where the computed test says so
use Rattle.std.proofs.Common.{◌≡◌, ℕ, ◌≤◌, Bool, true, false, not, ◌&&◌, List, length, Option, Some, None, refl, sym, ap, ◌∙◌, subst, nat_eq}
use Rattle.std.specs.Prelude.{option_map, if◌then◌else◌}
use Rattle.std.proofs.lemmas.Bool.{and_parts, not-true}
use Rattle.acn_grammar.specs.Check.{is_wide, has_no_table, is_lead, lead, form_lead, fields_lead, LeadAmbiguous}
use Rattle.acn_grammar.specs.Fails.{presence_count}
use Rattle.acn_grammar.specs.Grammar.{Grammar, Form, Fields, node, num, octets, bits, text, seq, list, choice, contained, no_fields, component, inserted}
use Rattle.acn_grammar.specs.Leaves.{num_fine}
use Rattle.acn_grammar.specs.declared.node.NumLeaf.{NumLeaf}
use Rattle.acn_grammar.specs.declared.node.Presence.TheVariants.{Always, Bit, When}
use Rattle.acn_grammar.specs.declared.node.Table.{Table}
use Rattle.acn_grammar.proofs.SpanLaw.{Fine, FormFine, FieldsFine}
use Rattle.acn_leads.specs.Begins.{not_told}
use Rattle.acn_leads.proofs.BeginsLaw.{begins_law}

chosen : {A : Type 0} (b : Bool) (x : A) (o : Option A) → (if b then o else None) ≡ Some x → (b ≡ true) × (o ≡ Some x)
chosen true x o h = (refl, h)
chosen false x o h = cc

abbrev pub Good : ℕ → NumLeaf → Type 0
Good n leaf = (num_fine leaf ≡ true) × (is_lead n leaf ≡ true)

mutual
  pub lead_good : (n : ℕ) (g : Grammar) (leaf : NumLeaf) → Fine g → lead n g ≡ Some leaf → Good n leaf
  lead_good n (node align form) leaf f h = form_good n form leaf f.1 (chosen (nat_eq align 1) leaf (form_lead n form) h).1

  form_good : (n : ℕ) (form : Form) (leaf : NumLeaf) → FormFine form → form_lead n form ≡ Some leaf → Good n leaf
  form_good n (num l) leaf f h =
      let c = chosen (is_lead n l) leaf (Some l) h in
      let same : l ≡ leaf = cc in
      subst (Good n) same (f, c.0)
  form_good n (seq fields home) leaf f h = fields_good n fields leaf f (chosen (nat_eq (presence_count fields) 0) leaf (fields_lead n fields) h).1
  form_good n (octets sizing) leaf f h = cc
  form_good n (bits sizing) leaf f h = cc
  form_good n (text t) leaf f h = cc
  form_good n (list sizing g) leaf f h = cc
  form_good n (choice cases rule) leaf f h = cc
  form_good n (contained sizing g) leaf f h = cc

  fields_good : (n : ℕ) (fs : Fields) (leaf : NumLeaf) → FieldsFine fs → fields_lead n fs ≡ Some leaf → Good n leaf
  fields_good n no_fields leaf f h = cc
  fields_good n (component name g Always default own fs) leaf f h = lead_good n g leaf f.0 h
  fields_good n (component name g Bit default own fs) leaf f h = cc
  fields_good n (component name g (When ts) default own fs) leaf f h = cc
  fields_good n (inserted name g slot fs) leaf f h = lead_good n g leaf f.0 h

-- without rules too
mutual
  lead_kept : (n : ℕ) (g : Grammar) (leaf : NumLeaf) → lead n g ≡ Some leaf → is_lead n leaf ≡ true
  lead_kept n (node align form) leaf h = form_kept n form leaf (chosen (nat_eq align 1) leaf (form_lead n form) h).1

  form_kept : (n : ℕ) (form : Form) (leaf : NumLeaf) → form_lead n form ≡ Some leaf → is_lead n leaf ≡ true
  form_kept n (num l) leaf h =
      let c = chosen (is_lead n l) leaf (Some l) h in
      let same : l ≡ leaf = cc in
      subst (λ (x : NumLeaf). is_lead n x ≡ true) same c.0
  form_kept n (seq fields home) leaf h = fields_kept n fields leaf (chosen (nat_eq (presence_count fields) 0) leaf (fields_lead n fields) h).1
  form_kept n (octets sizing) leaf h = cc
  form_kept n (bits sizing) leaf h = cc
  form_kept n (text t) leaf h = cc
  form_kept n (list sizing g) leaf h = cc
  form_kept n (choice cases rule) leaf h = cc
  form_kept n (contained sizing g) leaf h = cc

  fields_kept : (n : ℕ) (fs : Fields) (leaf : NumLeaf) → fields_lead n fs ≡ Some leaf → is_lead n leaf ≡ true
  fields_kept n no_fields leaf h = cc
  fields_kept n (component name g Always default own fs) leaf h = lead_kept n g leaf h
  fields_kept n (component name g Bit default own fs) leaf h = cc
  fields_kept n (component name g (When ts) default own fs) leaf h = cc
  fields_kept n (inserted name g slot fs) leaf h = lead_kept n g leaf h

no_table_is : (t : Option Table) → has_no_table t ≡ true → t ≡ None
no_table_is None h = refl
no_table_is (Some t) h = cc

pub some_of : {A B : Type 0} (f : A → B) (o : Option A) (x : A) (l : Option B) → option_map f o ≡ l → o ≡ Some x → l ≡ Some (f x)
some_of f o x l e s = sym e ∙ ap (option_map f) s

-- a lead has no table
pub lead_plain : (n : ℕ) (g : Grammar) (leaf : NumLeaf) → lead n g ≡ Some leaf → leaf.table ≡ None
lead_plain n g leaf h =
    let a = and_parts (is_wide n leaf.coding) (not leaf.little && has_no_table leaf.table) (lead_kept n g leaf h) in
    no_table_is leaf.table (and_parts (not leaf.little) (has_no_table leaf.table) a.1).1

record Law (p : List Bool) (leaf : NumLeaf) : Type 0 where
  to : not_told p (Some leaf) ≡ true → LeadAmbiguous p (Some leaf)
  from : LeadAmbiguous p (Some leaf) → not_told p (Some leaf) ≡ true

leaf_law : (p : List Bool) (leaf : NumLeaf) → 1 ≤ length p → Good (length p) leaf → Law p leaf
leaf_law p leaf some good =
    let a = and_parts (is_wide (length p) leaf.coding) (not leaf.little && has_no_table leaf.table) good.1 in
    let b = and_parts (not leaf.little) (has_no_table leaf.table) a.1 in
    let l = begins_law leaf good.0 (no_table_is leaf.table b.1) p some leaf.coding refl (not-true leaf.little b.0) a.0 in
    record { to = l.0; from = l.1 }

pub told_to : (p : List Bool) (o : Option NumLeaf) → 1 ≤ length p → ((leaf : NumLeaf) → o ≡ Some leaf → Good (length p) leaf) → not_told p o ≡ true → LeadAmbiguous p o
told_to p None some good h = tt
told_to p (Some leaf) some good h = (leaf_law p leaf some (good leaf refl)).to h

pub told_from : (p : List Bool) (o : Option NumLeaf) → 1 ≤ length p → ((leaf : NumLeaf) → o ≡ Some leaf → Good (length p) leaf) → LeadAmbiguous p o → not_told p o ≡ true
told_from p None some good h = refl
told_from p (Some leaf) some good h = (leaf_law p leaf some (good leaf refl)).from h
