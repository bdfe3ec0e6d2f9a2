use Rattle.std.proofs.Common.{◌+◌, ◌-◌, length, arith}
use Rattle.std.proofs.lemmas.Bool.Decides.{nat_tests}
use Rattle.acn_asking.proofs.Opens.{found_field, other_field, other_there}
use Rattle.acn_asking.proofs.opened.open_slot.Goals as goal

pub returns-then-here-slot-clause-field : goal.returns-then-here-slot-clause-field
returns-then-here-slot-clause-field c =
    let os = c.args.slots.now in
    found_field os (length os - c.loop-k.k) (length os - 1 - c.loop-k.k) c.args.slot c.index-slots-slots.result _ (omega arith) c.index-slots-slots.is (omega arith) (grind (arith, nat_tests)) c.loop-k.invariant.field

pub loop-k-preserved : goal.loop-k-preserved
loop-k-preserved c =
    let os = c.args.slots.now in
    let n = length os - c.loop-k.k in
    let at = length os - 1 - c.loop-k.k in
    let m = length os - (c.loop-k.k + 1) in
    record {
      there = other_there os n at m c.args.slot c.index-slots-slots.result (omega arith) c.index-slots-slots.is (omega arith) (omega arith) (grind (arith, nat_tests)) c.loop-k.invariant.there;
      field = other_field os n at m c.args.slot c.index-slots-slots.result _ (omega arith) c.index-slots-slots.is (omega arith) (omega arith) (grind (arith, nat_tests)) c.loop-k.invariant.field;
    }
