-- The JSON of an alternative, by its number.
use Rattle.std.proofs.Common.{◌≡◌, ℕ, zero, suc, ◌<◌, ◌≤◌, List, [], ◌∷◌, length, get_or, refl, arith, rules}
use Rattle.serde_json.specs.Data.{no_members, member}
use Rattle.acn_grammar.specs.Grammar.{Data}
use Rattle.acn_grammar.specs.View.{grammar_of, alternatives_view}
use Rattle.acn_grammar.specs.declared.node.Alternative.{Alternative}
use Rattle.acn_grammar.specs.declared.node.Body.{the_lemmas as node_lemmas}
use Rattle.acn_json.specs.Lines.{json_of, alternative_json}

pub alternative-at : (as' : List Alternative) (i : ℕ) (a : Alternative) (d : Data) → i < length as' → alternative_json (alternatives_view as') i d ≡ member (get_or as' i a).name (json_of (grammar_of (get_or as' i a).node) d) no_members
alternative-at [] i a d h = absurd (omega arith)
alternative-at (x ∷ xs) zero a d h = search (rules, node_lemmas)
alternative-at (x ∷ xs) (suc i) a d h = alternative-at xs i a d (omega arith)

pub alternative-past : (as' : List Alternative) (i : ℕ) (d : Data) → length as' ≤ i → alternative_json (alternatives_view as') i d ≡ no_members
alternative-past [] i d h = refl
alternative-past (x ∷ xs) zero d h = absurd (omega arith)
alternative-past (x ∷ xs) (suc i) d h = alternative-past xs i d (omega arith)
