-- The root of steps.
use Rattle.std.proofs.Common.{◌≡◌, ◌<◌, List, length, sym, ap, ◌∙◌, arith}
use Rattle.acn_grammar.specs.Grammar.{Grammar}
use Rattle.acn_plan.specs.Back.{root_of}
use Rattle.acn_plan.specs.Made.{IsMade}
use Rattle.acn_plan.specs.Steps.{steps_of}
use Rattle.acn_plan.specs.declared.step.Place.TheVariants.{Root}
use Rattle.acn_plan.specs.declared.step.Step.{Step}
use Rattle.acn_plan.proofs.Backs.{root_back, node_length, some_nodes}

pub its_root : (steps made : List Step) (root : Grammar) → made ≡ steps → steps_of root ≡ steps → root_of made ≡ root
its_root steps made root same e = ap root_of (same ∙ sym e) ∙ root_back root

pub some_step : (steps : List Step) → IsMade steps → 0 < length steps
some_step steps m =
    let l = node_length (root_of steps) Root 0 (root_of steps) in
    let p = some_nodes (root_of steps) (root_of steps) in
    let n = ap length m.said in
    omega (arith, l, p, n)
