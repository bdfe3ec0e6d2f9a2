use Rattle.std.proofs.Common.{◌≡◌, ◌∙◌, ◌++◌, ◌∷◌, ap, length, set, rules}
use Rattle.acn_plan.specs.Program.{ended}
use Rattle.acn_plan.proofs.Puts.{ends_at}
use Rattle.acn_plan.proofs.put.end_step.Goals as goal

pub returns : goal.returns
returns c = λ front behind s here whole.
    let long : c.len-next.result ≡ length c.args.steps.now.items = search rules in
    ap (λ s'. set c.args.steps.now.items c.args.at s') c.end.ensures ∙ (ends_at c.args.steps.now.items c.args.at c.args.numbers c.len-next.result c.index_mut.result.now c.index_mut.ensures.value front behind s here whole ∙ ap (λ k. front ++ ended s c.args.numbers k ∷ behind) long)
