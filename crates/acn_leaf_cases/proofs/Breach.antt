-- A text that meets its leaf.
use Rattle.std.proofs.Common.{◌≡◌, ℕ, List, [], ◌∷◌, Option, None, refl, ap, sym, ◌∙◌, rules}
use Rattle.acn_grammar.specs.Grammar.{Grammar, Data, node, text, characters}
use Rattle.acn_grammar.specs.Meets.{Why, Unfit, at_path, first_of, breach, text_breach}
use Rattle.acn_grammar.specs.View.{grammar_of, form_of, data_of}
use Rattle.acn_grammar.specs.declared.node.Body.{Body, Text as Text_body, the_lemmas as node_lemmas}
use Rattle.acn_grammar.specs.declared.node.Node.{Node}
use Rattle.acn_grammar.specs.declared.node.TextLeaf.{TextLeaf}
use Rattle.acn_grammar.specs.declared.value.Value.{Value, Text as Text_value, the_lemmas as value_lemmas}
use Rattle.acn_grammar.proofs.Views.{view_node}

none_left : (path : List ℕ) (whys : List Why) → first_of (at_path path whys) ≡ None → whys ≡ []
none_left path [] e = refl
none_left path (w ∷ ws) e = cc

form_text : (leaf : TextLeaf) → form_of (Text_body leaf) ≡ text leaf
form_text leaf = search (rules, node_lemmas)

data_text : (cs : List ℕ) → data_of (Text_value cs) ≡ characters cs
data_text cs = search (rules, value_lemmas)

pub text_meets : (n : Node) (v : Value) (leaf : TextLeaf) (cs : List ℕ) → n.body ≡ Text_body leaf → v ≡ Text_value cs → breach (grammar_of n) (data_of v) ≡ None → text_breach leaf cs ≡ []
text_meets n v leaf cs b d h =
    let one : grammar_of n ≡ node n.align (text leaf) = view_node n ∙ ap (λ body. node n.align (form_of body)) b ∙ ap (node n.align) (form_text leaf) in
    let two : data_of v ≡ characters cs = ap data_of d ∙ data_text cs in
    none_left [] (text_breach leaf cs) (sym (ap (λ g. breach g (data_of v)) one ∙ ap (λ x. breach (node n.align (text leaf)) x) two) ∙ h)
