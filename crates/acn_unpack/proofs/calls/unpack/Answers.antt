use Rattle.std.proofs.Common.{subst}
use Rattle.acn_num.specs.Bits.{bits}
use Rattle.acn_grammar.specs.Front.{Front}
use Rattle.acn_grammar.specs.Grammar.{Grammar, Data}
use Rattle.acn_grammar.specs.View.{data_of}
use Rattle.acn_plan.specs.Back.{root_of}
use Rattle.acn_reads.specs.Answers.{OnlyFault, OnlyFront, Refuses}
use Rattle.acn_reads.proofs.Tops.{only_front, only_fault}
use Rattle.acn_unpack.proofs.Halting.{halts_tells}
use Rattle.acn_unpack.proofs.Roots.{its_root}
use Rattle.acn_unpack.specs.Rests.{FrontRests, RefuseRests}
use Rattle.acn_unpack.proofs.Resting.{front_rests, refuse_rests}
use Rattle.acn_unpack.proofs.calls.unpack.Goals as goal

pub read_packet-requires : goal.read_packet-requires
read_packet-requires c = record { made = c.steps-steps.ensures.made; few = c.requires.few; top = c.new-path.ensures }

pub returns-in-Ok-clause-front : goal.returns-in-Ok-clause-front
returns-in-Ok-clause-front c root e =
    let k = c.in-Ok.ensures.front in
    subst (λ (g : Grammar). Front g (bits c.args.bytes.now) (data_of c.in-Ok.pair.0) c.in-Ok.pair.1) (its_root c.args.plan.now.steps c.steps-steps.result.now root c.steps-steps.ensures.same e)
    (subst (λ (d : Data). Front (root_of c.steps-steps.result.now) (bits c.args.bytes.now) d c.in-Ok.pair.1) k.1 k.2)

pub returns-in-Ok-clause-alone : goal.returns-in-Ok-clause-alone
returns-in-Ok-clause-alone c root e =
    let k = c.in-Ok.ensures.front in
    subst (λ (g : Grammar). OnlyFront g (bits c.args.bytes.now) (data_of c.in-Ok.pair.0) c.in-Ok.pair.1) (its_root c.args.plan.now.steps c.steps-steps.result.now root c.steps-steps.ensures.same e)
    (only_front (root_of c.steps-steps.result.now) (bits c.args.bytes.now) _ _ c.steps-steps.ensures.made.accepted c.one_front.ensures c.fronts_exclude_failures.ensures (subst (λ (d : Data). Front (root_of c.steps-steps.result.now) (bits c.args.bytes.now) d c.in-Ok.pair.1) k.1 k.2))

pub returns-in-Err-clause-fault : goal.returns-in-Err-clause-fault
returns-in-Err-clause-fault c root e =
    subst (λ (g : Grammar). Refuses g (bits c.args.bytes.now) c.refusal.result) (its_root c.args.plan.now.steps c.steps-steps.result.now root c.steps-steps.ensures.same e)
    (c.refusal.ensures.told (root_of c.steps-steps.result.now) (bits c.args.bytes.now) (halts_tells c.in-Err.stop _ _ c.in-Err.ensures.fails))

pub returns-in-Err-clause-only : goal.returns-in-Err-clause-only
returns-in-Err-clause-only c root e =
    subst (λ (g : Grammar). OnlyFault g (bits c.args.bytes.now) c.refusal.result) (its_root c.args.plan.now.steps c.steps-steps.result.now root c.steps-steps.ensures.same e)
    (only_fault (root_of c.steps-steps.result.now) (bits c.args.bytes.now) c.refusal.result c.steps-steps.ensures.made.accepted c.fronts_exclude_failures.ensures c.one_failure.ensures (c.refusal.ensures.told (root_of c.steps-steps.result.now) (bits c.args.bytes.now) (halts_tells c.in-Err.stop _ _ c.in-Err.ensures.fails)))

pub returns-in-Ok-clause-front_rests : goal.returns-in-Ok-clause-front_rests
returns-in-Ok-clause-front_rests c root e =
    let k = c.in-Ok.ensures.front in
    subst (λ (g : Grammar). FrontRests g (bits c.args.bytes.now) (data_of c.in-Ok.pair.0) c.in-Ok.pair.1) (its_root c.args.plan.now.steps c.steps-steps.result.now root c.steps-steps.ensures.same e)
    (front_rests (root_of c.steps-steps.result.now) (bits c.args.bytes.now) _ _ c.values_rest_on_bits.ensures c.steps-steps.ensures.made.accepted (subst (λ (d : Data). Front (root_of c.steps-steps.result.now) (bits c.args.bytes.now) d c.in-Ok.pair.1) k.1 k.2))

pub returns-in-Err-clause-fault_rests : goal.returns-in-Err-clause-fault_rests
returns-in-Err-clause-fault_rests c root e =
    subst (λ (g : Grammar). RefuseRests g (bits c.args.bytes.now) c.refusal.result) (its_root c.args.plan.now.steps c.steps-steps.result.now root c.steps-steps.ensures.same e)
    (refuse_rests (root_of c.steps-steps.result.now) (bits c.args.bytes.now) c.refusal.result c.faults_rest_on_bits.ensures c.steps-steps.ensures.made.accepted (c.refusal.ensures.told (root_of c.steps-steps.result.now) (bits c.args.bytes.now) (halts_tells c.in-Err.stop _ _ c.in-Err.ensures.fails)))
