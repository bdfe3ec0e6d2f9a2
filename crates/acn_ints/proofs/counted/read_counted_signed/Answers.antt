use Rattle.acn_ints.proofs.SaidLemmas.{taken_stays, few_stays}
use Rattle.std.proofs.Common.{arith, ◌*◌, sym, ◌∙◌}
use Rattle.std.proofs.lemmas.Int.{to_z-of_z}
use Rattle.std.specs.Int.{w128}
use Rattle.acn_num.specs.Bits.{signed_number}
use Rattle.acn_grammar.specs.Length.{least_signed_octets}
use Rattle.acn_ints.proofs.CountedCodes.{parts_of, signed_said, count_not_minimal, count_wrong, body_short}
use Rattle.acn_grammar.specs.ReadFaults.{reason_of}
use Rattle.acn_ints.proofs.counted.read_counted_signed.Goals as goal
use Rattle.acn_bits.proofs.Readings.{stays_twice}

pub returns-then-signed_octets_for-c-clause-stays : goal.returns-then-signed_octets_for-c-clause-stays
returns-then-signed_octets_for-c-clause-stays c =
    let t = c.in-Ok.ensures.count.taken in
    stays_twice c.args.cur.now c.take_count.new.cur c.bits_of.new.cur (taken_stays 8 c.args.cur.now c.take_count.new.cur c.in-Ok.c t) (taken_stays (8 * c.in-Ok.c) c.take_count.new.cur c.bits_of.new.cur c.in-Ok-bits_of.v c.in-Ok-bits_of.ensures.taken)

pub returns-in-Err-bits_of-clause-stays : goal.returns-in-Err-bits_of-clause-stays
returns-in-Err-bits_of-clause-stays c =
    let t = c.in-Ok.ensures.count.taken in
    stays_twice c.args.cur.now c.take_count.new.cur c.bits_of.new.cur (taken_stays 8 c.args.cur.now c.take_count.new.cur c.in-Ok.c t) (few_stays (8 * c.in-Ok.c) c.take_count.new.cur c.bits_of.new.cur c.in-Err-bits_of.ensures.short.1)

pub returns-else-signed_octets_for-c-clause-said : goal.returns-else-signed_octets_for-c-clause-said
returns-else-signed_octets_for-c-clause-said c =
    let p = parts_of c.args.cur.now c.take_count.new.cur c.bits_of.new.cur c.in-Ok.c c.in-Ok-bits_of.v c.in-Ok.ensures.count c.in-Ok-bits_of.ensures.taken in
    let plain = to_z-of_z w128 c.twos-y.result (record { sfits = c.twos-y.type_inv }) in
    signed_said c.args.cur.now c.bits_of.new.cur c.in-Ok.c c.in-Ok-bits_of.v _ p (λ bs is. c.twos-y.ensures.value bs is ∙ sym plain) (omega (arith, c.signed_octets_for.ensures.least))

pub returns-then-signed_octets_for-c-clause-wrong : goal.returns-then-signed_octets_for-c-clause-wrong
returns-then-signed_octets_for-c-clause-wrong c =
    let p = parts_of c.args.cur.now c.take_count.new.cur c.bits_of.new.cur c.in-Ok.c c.in-Ok-bits_of.v c.in-Ok.ensures.count c.in-Ok-bits_of.ensures.taken in
    let plain = to_z-of_z w128 c.twos-y.result (record { sfits = c.twos-y.type_inv }) in
    λ leaf. count_not_minimal signed_number least_signed_octets (λ x. x) leaf c.args.cur.now c.bits_of.new.cur c.in-Ok.c c.in-Ok-bits_of.v _ p (c.twos-y.ensures.value _ p.body ∙ sym plain) (omega (arith, c.signed_octets_for.ensures.least))

pub returns-in-Err-bits_of-clause-wrong : goal.returns-in-Err-bits_of-clause-wrong
returns-in-Err-bits_of-clause-wrong c = λ leaf. body_short signed_number least_signed_octets (λ x. x) leaf c.args.cur.now c.take_count.new.cur c.bits_of.new.cur c.in-Ok.c c.in-Err-bits_of.fault c.in-Ok.ensures.count c.in-Err-bits_of.ensures.short

pub returns-in-Err-clause-wrong : goal.returns-in-Err-clause-wrong
returns-in-Err-clause-wrong c = λ leaf. count_wrong signed_number least_signed_octets (λ x. x) leaf c.args.cur.now.rest (reason_of c.in-Err.fault) c.in-Err.ensures.wrong
