use Rattle.std.proofs.Common.{refl, arith, ◌∙◌}
use Rattle.acn_grammar.specs.LeafFails.{short, no_alternative}
use Rattle.acn_plan.specs.Back.{root_of, cases_at}
use Rattle.acn_reads.proofs.ChoiceReads.{index_picked, index_none, index_short, rule_none, plain_seen}
use Rattle.acn_unpack.proofs.choices.pick.Goals as goal

pub returns-then-v-count-clause-picked : goal.returns-then-v-count-clause-picked
returns-then-v-count-clause-picked c =
    let less = c.if-v-count.true in
    let n = c.count_cases-count.ensures c.args.steps.now c.args.first c.args.end c.requires.made c.requires.within (c.items.ensures ∙ c.requires.row) in
    index_picked (root_of c.args.steps.now) (cases_at c.args.steps.now c.args.first c.args.end) c.args.cases.now.rule c.in-Index.width c.args.slots.now c.args.cur.now c.take.new.self c.in-Ok.v c.in-Ok.v c.in-Index.is c.in-Ok.ensures.within c.in-Ok.ensures.value refl (omega (arith, less, n)) c.in-Ok.ensures.moved

pub returns-else-v-count-clause-fails : goal.returns-else-v-count-clause-fails
returns-else-v-count-clause-fails c =
    let more = c.if-v-count.false in
    let n = c.count_cases-count.ensures c.args.steps.now c.args.first c.args.end c.requires.made c.requires.within (c.items.ensures ∙ c.requires.row) in
    (refl, (no_alternative, plain_seen c.args.inside, index_none (root_of c.args.steps.now) (cases_at c.args.steps.now c.args.first c.args.end) c.args.cases.now.rule c.in-Index.width c.args.slots.now c.args.cur.now c.in-Ok.v c.in-Index.is c.in-Ok.ensures.within c.in-Ok.ensures.value (omega (arith, more, n))))

pub returns-in-Err-clause-fails : goal.returns-in-Err-clause-fails
returns-in-Err-clause-fails c = (refl, (short, c.named.ensures, index_short (root_of c.args.steps.now) (cases_at c.args.steps.now c.args.first c.args.end) c.args.cases.now.rule c.in-Index.width c.args.slots.now c.args.cur.now c.in-Index.is c.in-Err.ensures.short))

pub returns-in-None-clause-fails : goal.returns-in-None-clause-fails
returns-in-None-clause-fails c = (refl, (no_alternative, plain_seen c.args.inside, rule_none (root_of c.args.steps.now) (cases_at c.args.steps.now c.args.first c.args.end) c.args.cases.now.rule c.args.slots.now c.args.cur.now (λ width e. let t = c.in-Tests.is in cc) c.in-None.ensures))

pub returns-in-None-chosen-clause-fails : goal.returns-in-None-chosen-clause-fails
returns-in-None-chosen-clause-fails c = (refl, (no_alternative, plain_seen c.args.inside, rule_none (root_of c.args.steps.now) (cases_at c.args.steps.now c.args.first c.args.end) c.args.cases.now.rule c.args.slots.now c.args.cur.now (λ width e. let t = c.in-Item.is in cc) c.in-None-chosen.ensures))
