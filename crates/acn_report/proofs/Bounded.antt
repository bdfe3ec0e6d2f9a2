-- The line of two bounds, by its parts.
use Rattle.std.proofs.Common.{◌≡◌, ℕ, List, [], ◌∷◌, refl}
use Rattle.std.specs.Prelude.{codes}
use Rattle.std.specs.Fmt.{decimal}
use Rattle.std.specs.List.{concat}
use Rattle.acn_grammar.specs.Interval.{span}
use Rattle.acn_grammar.specs.View.{grammar_of}
use Rattle.acn_grammar.specs.declared.bounds.Bounds.{Bounds}
use Rattle.acn_tree.specs.declared.tree.Tree.{Tree}
use Rattle.acn_report.specs.Texts.{bounds_line}

pub bounded : (tree : Tree) (name : List ℕ) (b : Bounds) → name ≡ tree.name → b ≡ span (grammar_of tree.root) → concat (name ∷ codes " " ∷ decimal b.least ∷ codes " " ∷ decimal b.greatest ∷ codes "\n" ∷ []) ≡ bounds_line tree
bounded tree name b a e = rw (a, e) refl
