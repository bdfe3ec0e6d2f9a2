use Rattle.std.proofs.Common.{List, arith, sym, ap, ◌∙◌, subst}
use Rattle.acn_grammar.specs.View.{grammar_of}
use Rattle.acn_packet_laws.specs.Laws.{IsAccepted}
use Rattle.acn_plan.specs.Made.{IsMade}
use Rattle.acn_plan.specs.Steps.{steps_of}
use Rattle.acn_plan.specs.declared.step.Step.{Step}
use Rattle.acn_plan.proofs.Mades.{made}
use Rattle.acn_plan.proofs.compiling.compile.Goals as goal

pub new-requires : goal.new-requires
new-requires c =
    let same = ap (λ t. t.root) c.tree.ensures.same in
    let steps = c.in_ok-listed.ensures ∙ ap (λ n. steps_of (grammar_of n)) (c.root.ensures.same ∙ same) in
    let m = made (grammar_of c.args.checked.now.tree.root) c.in_ok-listed.listed steps (subst (λ n. IsAccepted (grammar_of n)) same c.tree.ensures.accepted) c.requires.named in
    let few = m.few in
    omega (arith, few)

pub of-requires : goal.of-requires
of-requires c =
    let same = ap (λ t. t.root) c.tree.ensures.same in
    let steps = c.in_ok-listed.ensures ∙ ap (λ n. steps_of (grammar_of n)) (c.root.ensures.same ∙ same) in
    let m = made (grammar_of c.args.checked.now.tree.root) c.in_ok-listed.listed steps (subst (λ n. IsAccepted (grammar_of n)) same c.tree.ensures.accepted) c.requires.named in
    subst (λ (ss : List Step). IsMade ss) (sym c.in_ok-steps.ensures) m

pub returns-clause-steps : goal.returns-clause-steps
returns-clause-steps c = c.of.ensures.steps ∙ (c.in_ok-steps.ensures ∙ (c.in_ok-listed.ensures ∙ ap (λ n. steps_of (grammar_of n)) (c.root.ensures.same ∙ ap (λ t. t.root) c.tree.ensures.same)))
