-- Paths in words: `.name` for a field or an alternative, `[k]` for an element, `()` for a content. (This program's own.)
use Rattle.std.specs.Prelude.{ℕ, zero, suc, Bool, true, false, ◌||◌, List, [], ◌∷◌, ◌++◌, Option, Some, None, option_map, codes}
use Rattle.std.specs.Fmt.{decimal}
use Rattle.std.specs.List.{concat}
use Rattle.acn_grammar.specs.Grammar.{Grammar, Form, Fields, Alternatives, node, seq, list, choice, contained, no_fields, component, inserted, no_alternatives, alternative}
use Rattle.acn_grammar.specs.Paths.{node_at}
use Rattle.acn_grammar.specs.View.{OneField, a_component, an_inserted, grammar_of}
use Rattle.acn_tree.specs.declared.tree.Tree.{Tree}
use Rattle.acn_report.specs.declared.step.Elements.{Elements}
use Rattle.acn_report.specs.declared.step.Elements.TheVariants.{Numbered, Bare}
use Rattle.acn_report.specs.declared.step.Step.{Step}
use Rattle.acn_report.specs.declared.step.Step.TheVariants.{Named, Element, Content}

-- a step: to the field or alternative of a name, to the element of a number, to a content
pub data OneStep : Type 0 where
  to_named : (name : List ℕ) → OneStep
  to_element : ℕ → OneStep
  to_content : OneStep

-- a step, and the node that it leads to
abbrev pub Child : Type 0
Child = OneStep × Grammar

-- the name and the node of a field
abbrev pub named_in : OneField → List ℕ × Grammar
named_in (a_component name g presence default own) = (name, g)
named_in (an_inserted name g slot) = (name, g)

-- those of the field of a number
abbrev pub field_named : Fields → ℕ → Option (List ℕ × Grammar)
field_named no_fields k = None
field_named (component name g presence default own fs) zero = Some (name, g)
field_named (component name g presence default own fs) (suc k) = field_named fs k
field_named (inserted name g slot fs) zero = Some (name, g)
field_named (inserted name g slot fs) (suc k) = field_named fs k

-- those of the alternative of a number
abbrev pub alternative_named : Alternatives → ℕ → Option (List ℕ × Grammar)
alternative_named no_alternatives k = None
alternative_named (alternative name g tests more) zero = Some (name, g)
alternative_named (alternative name g tests more) (suc k) = alternative_named more k

abbrev pub named_child : List ℕ × Grammar → Child
named_child c = (to_named c.0, c.1)

-- a step from a node, and the node that it leads to
abbrev pub form_step : Form → ℕ → Option Child
form_step (seq fields home) k = option_map named_child (field_named fields k)
form_step (list sizing g) k = Some (to_element k, g)
form_step (choice cases rule) k = option_map named_child (alternative_named cases k)
form_step (contained sizing g) k = Some (to_content, g)
form_step _ k = None

abbrev pub step_from : Grammar → ℕ → Option Child
step_from (node align form) k = form_step form k

abbrev pub and_on : Option Child → (Child → List ℕ) → List ℕ
and_on None text = []
and_on (Some c) text = text c

-- Whole paths.

abbrev pub dotted : List ℕ → List ℕ
dotted name = concat (codes "." ∷ name ∷ [])

abbrev pub element_text : ℕ → List ℕ
element_text k = concat (codes "[" ∷ decimal k ∷ codes "]" ∷ [])

-- an element with its number, or without one
abbrev pub element_words : Elements → ℕ → List ℕ
element_words Numbered k = element_text k
element_words Bare k = codes "[]"

abbrev pub step_text : Elements → OneStep → List ℕ
step_text elements (to_named name) = dotted name
step_text elements (to_element k) = element_words elements k
step_text elements to_content = codes "()"

-- the steps of a path from a node on, as far as they lead to nodes
abbrev pub steps_text : Elements → Grammar → List ℕ → List ℕ
steps_text elements g [] = []
steps_text elements g (k ∷ path) = and_on (step_from g k) (λ c. step_text elements c.0 ++ steps_text elements c.1 path)

-- the name of the type, and then the steps
abbrev pub text_of : Elements → Tree → List ℕ → List ℕ
text_of elements tree path = tree.name ++ steps_text elements (grammar_of tree.root) path

-- a path
abbrev pub path_text : Tree → List ℕ → List ℕ
path_text tree path = text_of Numbered tree path

-- the place of a node in its tree, which says `[]` for the elements of a list
abbrev pub place_text : Tree → List ℕ → List ℕ
place_text tree path = text_of Bare tree path

-- The names of a path alone, joined by full stops.

-- what stands in front of a name: a full stop behind another name
abbrev pub front_text : (begun : Bool) → List ℕ
front_text false = []
front_text true = codes "."

abbrev pub name_words : (begun : Bool) → OneStep → List ℕ
name_words begun (to_named name) = concat (front_text begun ∷ name ∷ [])
name_words begun _ = []

abbrev pub has_name : OneStep → Bool
has_name (to_named name) = true
has_name _ = false

abbrev pub names_from : (begun : Bool) → Grammar → List ℕ → List ℕ
names_from begun g [] = []
names_from begun g (k ∷ path) = and_on (step_from g k) (λ c. name_words begun c.0 ++ names_from (begun || has_name c.0) c.1 path)

abbrev pub names_text : Tree → List ℕ → List ℕ
names_text tree path = names_from false (grammar_of tree.root) path

-- The names of alternatives.

abbrev pub alternative_name : Grammar → ℕ → Option (List ℕ)
alternative_name (node align (choice cases rule)) k = option_map (λ c. c.0) (alternative_named cases k)
alternative_name _ k = None

abbrev pub name_there : Option Grammar → ℕ → Option (List ℕ)
name_there None k = None
name_there (Some g) k = alternative_name g k

-- `-` where there is none
abbrev pub or_dash : Option (List ℕ) → List ℕ
or_dash None = codes "-"
or_dash (Some text) = text

-- the name of an alternative of the CHOICE at a path
abbrev pub alternative_text : Tree → List ℕ → ℕ → List ℕ
alternative_text tree path k = or_dash (name_there (node_at (grammar_of tree.root) path) k)

-- what a step of the program is
abbrev pub step_is : Step → OneStep
step_is (Named name) = to_named name.now
step_is (Element k) = to_element k
step_is Content = to_content
