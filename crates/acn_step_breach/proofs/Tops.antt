-- From the walk to the answer of the call.
use Rattle.std.proofs.Common.{◌≡◌, ℕ, List, [], Option, ap, ◌∙◌}
use Rattle.acn_grammar.specs.Grammar.{Data}
use Rattle.acn_grammar.specs.Meets.{Unfit, breach, breaches, first_of}
use Rattle.acn_plan.specs.Back.{root_of, node_at}
use Rattle.acn_plan.specs.declared.step.Step.{Step}

pub root_breaks : (o : Option Unfit) (steps whole : List Step) (path : List ℕ) (d : Data) → steps ≡ whole → path ≡ [] → o ≡ first_of (breaches path (node_at steps 0) d) → o ≡ breach (root_of whole) d
root_breaks o steps whole path d e p a = a ∙ (ap (λ (x : List ℕ). first_of (breaches x (node_at steps 0) d)) p ∙ ap (λ (x : List Step). first_of (breaches [] (node_at x 0) d)) e)
