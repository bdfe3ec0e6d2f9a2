-- Names and nodes of children, from the rows of fields and alternatives.
use Rattle.std.proofs.Common.{◌≡◌, ℕ, zero, suc, ◌<◌, ◌≤◌, List, [], ◌∷◌, ◌++◌, length, get_or, Some, None, refl, sym, ap, ◌∙◌, arith, rules}
use Rattle.acn_grammar.specs.Grammar.{Grammar, Fields}
use Rattle.acn_grammar.specs.View.{OneField, a_component, an_inserted, with_field, grammar_of, field_of, fields_view, alternatives_view}
use Rattle.acn_grammar.specs.declared.node.Alternative.{Alternative}
use Rattle.acn_grammar.specs.declared.node.Field.{Field}
use Rattle.acn_grammar.specs.declared.node.Body.{the_lemmas as node_lemmas}
use Rattle.acn_grammar.specs.declared.node.Node.{Node}
use Rattle.acn_tree.specs.declared.tree.Tree.{Tree}
use Rattle.acn_report.specs.Names.{Child, named_in, field_named, alternative_named, step_from, and_on, steps_text, text_of}
use Rattle.acn_report.specs.declared.step.Elements.{Elements}

first_field : (f : OneField) (fs : Fields) → field_named (with_field f fs) zero ≡ Some (named_in f)
first_field (a_component name g presence default own) fs = refl
first_field (an_inserted name g slot) fs = refl

next_field : (f : OneField) (fs : Fields) (k : ℕ) → field_named (with_field f fs) (suc k) ≡ field_named fs k
next_field (a_component name g presence default own) fs k = refl
next_field (an_inserted name g slot) fs k = refl

pub field-some : (fs : List Field) (k : ℕ) (f : Field) → k < length fs → field_named (fields_view fs) k ≡ Some (named_in (field_of (get_or fs k f)))
field-some [] k f h = absurd (omega arith)
field-some (x ∷ xs) zero f h = first_field (field_of x) (fields_view xs)
field-some (x ∷ xs) (suc k) f h = next_field (field_of x) (fields_view xs) k ∙ field-some xs k f (omega arith)

pub field-past : (fs : List Field) (k : ℕ) → length fs ≤ k → field_named (fields_view fs) k ≡ None
field-past [] k h = refl
field-past (x ∷ xs) zero h = absurd (omega arith)
field-past (x ∷ xs) (suc k) h = next_field (field_of x) (fields_view xs) k ∙ field-past xs k (omega arith)

pub alternative-some : (as' : List Alternative) (k : ℕ) (a : Alternative) → k < length as' → alternative_named (alternatives_view as') k ≡ Some ((get_or as' k a).name, grammar_of (get_or as' k a).node)
alternative-some [] k a h = absurd (omega arith)
alternative-some (x ∷ xs) zero a h = search (rules, node_lemmas)
alternative-some (x ∷ xs) (suc k) a h = alternative-some xs k a (omega arith)

pub alternative-past : (as' : List Alternative) (k : ℕ) → length as' ≤ k → alternative_named (alternatives_view as') k ≡ None
alternative-past [] k h = refl
alternative-past (x ∷ xs) zero h = absurd (omega arith)
alternative-past (x ∷ xs) (suc k) h = alternative-past xs k (omega arith)

-- one step of a path, and where it leads nowhere
pub taken : (g : Grammar) (k : ℕ) (text : Child → List ℕ) (c : Child) → Some c ≡ step_from g k → and_on (step_from g k) text ≡ text c
taken g k text c e = ap (λ o. and_on o text) (sym e)

pub not_taken : (g : Grammar) (k : ℕ) (text : Child → List ℕ) → None ≡ step_from g k → and_on (step_from g k) text ≡ []
not_taken g k text e = ap (λ o. and_on o text) (sym e)

-- a path by its parts
pub named_path : (elements : Elements) (tree : Tree) (path name steps : List ℕ) (root : Node) → name ≡ tree.name → root ≡ tree.root → steps ≡ path → name ++ steps_text elements (grammar_of root) steps ≡ text_of elements tree path
named_path elements tree path name steps root a b c = rw (a, b, c) refl
