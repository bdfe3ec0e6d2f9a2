use Rattle.acn_ints.proofs.SaidLemmas.{taken_stays, few_stays}
use Rattle.std.proofs.Common.{arith, ap, pos, nat_abs, ◌*◌, ◌+ℤ◌}
use Rattle.std.proofs.lemmas.Int.{ints}
use Rattle.acn_ints.proofs.CountedCodes.{parts_of, from_said, count_not_minimal, count_wrong, body_short}
use Rattle.acn_num.specs.Bits.{number}
use Rattle.acn_grammar.specs.Length.{least_octets}
use Rattle.acn_grammar.specs.ReadFaults.{reason_of}
use Rattle.acn_ints.proofs.counted.read_counted_from.Goals as goal
use Rattle.acn_bits.proofs.Readings.{stays_twice}

pub returns-then-octets_for-c-clause-stays : goal.returns-then-octets_for-c-clause-stays
returns-then-octets_for-c-clause-stays c =
    let t = c.in-Ok.ensures.count.taken in
    stays_twice c.args.cur.now c.take_count.new.cur c.bits_of.new.cur (taken_stays 8 c.args.cur.now c.take_count.new.cur c.in-Ok.c t) (taken_stays (8 * c.in-Ok.c) c.take_count.new.cur c.bits_of.new.cur c.in-Ok-bits_of.v c.in-Ok-bits_of.ensures.taken)

pub returns-in-Err-bits_of-clause-stays : goal.returns-in-Err-bits_of-clause-stays
returns-in-Err-bits_of-clause-stays c =
    let t = c.in-Ok.ensures.count.taken in
    stays_twice c.args.cur.now c.take_count.new.cur c.bits_of.new.cur (taken_stays 8 c.args.cur.now c.take_count.new.cur c.in-Ok.c t) (few_stays (8 * c.in-Ok.c) c.take_count.new.cur c.bits_of.new.cur c.in-Err-bits_of.ensures.short.1)

pub returns-else-octets_for-c-clause-said : goal.returns-else-octets_for-c-clause-said
returns-else-octets_for-c-clause-said c =
    let p = parts_of c.args.cur.now c.take_count.new.cur c.bits_of.new.cur c.in-Ok.c c.in-Ok-bits_of.v c.in-Ok.ensures.count c.in-Ok-bits_of.ensures.taken in
    from_said c.args.low.now c.args.cur.now c.bits_of.new.cur c.in-Ok.c c.in-Ok-bits_of.v _ _ p (omega arith) (omega (arith, ints)) (omega (arith, ints))

pub returns-then-octets_for-c-clause-wrong : goal.returns-then-octets_for-c-clause-wrong
returns-then-octets_for-c-clause-wrong c =
    let p = parts_of c.args.cur.now c.take_count.new.cur c.bits_of.new.cur c.in-Ok.c c.in-Ok-bits_of.v c.in-Ok.ensures.count c.in-Ok-bits_of.ensures.taken in
    λ leaf. count_not_minimal (λ b. pos (number b)) (λ x. least_octets (nat_abs x)) (λ x. c.args.low.now +ℤ x) leaf c.args.cur.now c.bits_of.new.cur c.in-Ok.c c.in-Ok-bits_of.v (pos c.in-Ok-bits_of.v) p (ap pos p.body.value) (omega (arith, c.octets_for.ensures.least))

pub returns-in-Err-bits_of-clause-wrong : goal.returns-in-Err-bits_of-clause-wrong
returns-in-Err-bits_of-clause-wrong c = λ leaf. body_short (λ b. pos (number b)) (λ x. least_octets (nat_abs x)) (λ x. c.args.low.now +ℤ x) leaf c.args.cur.now c.take_count.new.cur c.bits_of.new.cur c.in-Ok.c c.in-Err-bits_of.fault c.in-Ok.ensures.count c.in-Err-bits_of.ensures.short

pub returns-in-Err-clause-wrong : goal.returns-in-Err-clause-wrong
returns-in-Err-clause-wrong c = λ leaf. count_wrong (λ b. pos (number b)) (λ x. least_octets (nat_abs x)) (λ x. c.args.low.now +ℤ x) leaf c.args.cur.now.rest (reason_of c.in-Err.fault) c.in-Err.ensures.wrong
