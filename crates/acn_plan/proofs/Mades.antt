-- What steps that were made of an accepted root keep.
use Rattle.std.proofs.Common.{◌≡◌, List, length, sym, ap, ◌∙◌, subst, arith}
use Rattle.acn_grammar.specs.Grammar.{Grammar}
use Rattle.acn_grammar.specs.ItemsNamed.{ItemsNamed}
use Rattle.acn_packet_laws.specs.Laws.{IsAccepted}
use Rattle.acn_plan.specs.Back.{root_of, Nested, Itemed, Listed}
use Rattle.acn_plan.specs.Made.{IsMade}
use Rattle.acn_plan.specs.Steps.{steps_of}
use Rattle.acn_plan.specs.declared.step.Place.TheVariants as places
use Rattle.acn_plan.specs.declared.step.Step.{Step}
use Rattle.acn_plan.proofs.Backs.{root_back, node_length}
use Rattle.acn_plan.proofs.Few.{few_nodes}
use Rattle.acn_plan.proofs.Itemizes.{itemed}
use Rattle.acn_plan.proofs.Lists.{listed}
use Rattle.acn_plan.proofs.Nests.{nested}

pub made_nested : (steps : List Step) → IsMade steps → Nested steps
made_nested steps m = subst Nested m.said (nested (root_of steps))

pub made_itemed : (steps : List Step) → IsMade steps → Itemed (root_of steps) steps
made_itemed steps m = subst (Itemed (root_of steps)) m.said (itemed (root_of steps))

pub made_listed : (steps : List Step) → IsMade steps → Listed steps
made_listed steps m = subst Listed m.said (listed (root_of steps))

pub made : (root : Grammar) (steps : List Step) → steps ≡ steps_of root → IsAccepted root → ItemsNamed root → IsMade steps
made root steps e accepted named =
    (let back : root_of steps ≡ root = ap root_of e ∙ root_back root in
    let few = few_nodes root accepted.formed in
    let long = ap length e ∙ node_length root places.Root 0 root in
    record { said = ap steps_of back ∙ sym e; accepted = subst IsAccepted (sym back) accepted; named = subst ItemsNamed (sym back) named; few = omega (arith, few, long) })
