use Rattle.std.proofs.Common.{ap, ◌∙◌, arith, drop, length, length-append}
use Rattle.acn_grammar.specs.Grammar.{Fields}
use Rattle.acn_grammar.specs.Length.{presence_bits}
use Rattle.acn_grammar.specs.View.{places_view}
use Rattle.acn_plan.specs.Back.{node_at, fields_at}
use Rattle.acn_plan.proofs.Mades.{made_nested}
use Rattle.acn_plan.proofs.Marks.{fields_more, fields_none}
use Rattle.acn_pack.specs.Parts.{bits_in}
use Rattle.acn_pack.proofs.PresenceBits.{one_at_most}
use Rattle.acn_pack.proofs.flags.count_flags.Goals as goal

pub loop-this-init : goal.loop-this-init
loop-this-init c = record { few = omega arith; within = omega arith; count = omega arith }

pub at-step-requires : goal.at-step-requires
at-step-requires c = let a = c.loop-this-test.true in let b = c.requires.within in omega (arith, a, b)

pub loop-this-preserved : goal.loop-this-preserved
loop-this-preserved c =
    let l = c.loop-this in
    let s = c.at-step.result.now in
    let up = (made_nested c.args.steps.now c.requires.made l.this s c.at-step.ensures).behind in
    let more = fields_more c.args.steps.now l.this c.args.end s c.at-step.ensures c.loop-this-test.true up in
    let rest = fields_at c.args.steps.now s.next c.args.end in
    let bits = presence_bits rest (places_view (drop c.in-Some.flag.next c.args.places.now)) in
    let split = ap length (ap (λ (fs : Fields). presence_bits fs (places_view (drop l.next c.args.places.now))) more ∙ c.in-Some.ensures.some (node_at c.args.steps.now l.this) rest) ∙ length-append (bits_in c.in-Some.flag.bit) bits in
    let few = l.invariant.few in
    let n = l.invariant.count in
    let one = c.width_of-width.ensures in
    let most = one_at_most c.in-Some.flag.bit in
    record { few = omega (arith, up, few, one, most); within = c.in-Some.ensures.within; count = omega (arith, split, one, n) }

pub loop-this-smaller : goal.loop-this-smaller
loop-this-smaller c =
    let up = (made_nested c.args.steps.now c.requires.made c.loop-this.this c.at-step.result.now c.at-step.ensures).behind in let a = c.loop-this-test.true in omega (arith, up, a)

pub returns-in-None : goal.returns-in-None
returns-in-None c =
    let l = c.loop-this in
    let s = c.at-step.result.now in
    let up = (made_nested c.args.steps.now c.requires.made l.this s c.at-step.ensures).behind in
    let more = fields_more c.args.steps.now l.this c.args.end s c.at-step.ensures c.loop-this-test.true up in
    let none = ap length (ap (λ (fs : Fields). presence_bits fs (places_view (drop l.next c.args.places.now))) more ∙ c.in-None.ensures.none (node_at c.args.steps.now l.this) (fields_at c.args.steps.now s.next c.args.end)) in
    let n = l.invariant.count in
    omega (arith, none, n)

pub returns : goal.returns
returns c =
    let l = c.loop-this in
    let o = c.loop-this-test.false in
    let none = ap (λ (fs : Fields). length (presence_bits fs (places_view (drop l.next c.args.places.now)))) (fields_none c.args.steps.now l.this c.args.end (omega (arith, o))) in
    let n = l.invariant.count in
    omega (arith, none, n)
