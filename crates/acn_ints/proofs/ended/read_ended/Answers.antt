use Rattle.std.proofs.Common.{subst}
use Rattle.acn_ints.specs.EndedReads.{PassedCharacter}
use Rattle.acn_bits.specs.Reading.{Stays}
use Rattle.acn_ints.proofs.EndedLemmas.{value_small, upto_next, upto_stays, digit_stays, end_stays, small_at, stays_at}
use Rattle.acn_ints.proofs.ended.read_ended.Goals as goal

pub returns-then-count-most-clause-stays : goal.returns-then-count-most-clause-stays
returns-then-count-most-clause-stays c =
    let p = subst (PassedCharacter c.args.size c.args.zero_digit c.args.end.now c.loop-count.cur c.next_character.new.cur) c.in-Digit.is c.in-Ok.ensures.character in
    upto_stays c.args.size c.args.zero_digit c.args.most c.args.cur.now c.loop-count.cur c.next_character.new.cur c.loop-count.count c.loop-count.so_far.count c.loop-count.so_far.value c.loop-count.so_far.leading_zero c.loop-count.invariant
    (digit_stays c.args.size c.args.zero_digit c.loop-count.cur c.next_character.new.cur c.in-Digit.digit p)

pub one_more-so_far-requires-clause-below : goal.one_more-so_far-requires-clause-below
one_more-so_far-requires-clause-below c = value_small c.args.size c.args.zero_digit c.args.most c.args.cur.now c.loop-count.cur c.loop-count.count c.loop-count.so_far.count c.loop-count.so_far.value c.loop-count.so_far.leading_zero c.requires.most c.loop-count.invariant

pub returns-in-End-clause-small : goal.returns-in-End-clause-small
returns-in-End-clause-small c = small_at c.finished.result c.loop-count.so_far.value c.finished.ensures.magnitude (value_small c.args.size c.args.zero_digit c.args.most c.args.cur.now c.loop-count.cur c.loop-count.count c.loop-count.so_far.count c.loop-count.so_far.value c.loop-count.so_far.leading_zero c.requires.most c.loop-count.invariant)

pub returns-in-End-clause-stays : goal.returns-in-End-clause-stays
returns-in-End-clause-stays c =
    let p = subst (PassedCharacter c.args.size c.args.zero_digit c.args.end.now c.loop-count.cur c.next_character.new.cur) c.in-End.is c.in-Ok.ensures.character in
    stays_at c.finished.result (Stays c.args.cur.now c.next_character.new.cur)
    (upto_stays c.args.size c.args.zero_digit c.args.most c.args.cur.now c.loop-count.cur c.next_character.new.cur c.loop-count.count c.loop-count.so_far.count c.loop-count.so_far.value c.loop-count.so_far.leading_zero c.loop-count.invariant
    (end_stays c.args.end.now c.loop-count.cur c.next_character.new.cur p))

pub returns-in-Err-clause-stays : goal.returns-in-Err-clause-stays
returns-in-Err-clause-stays c =
    upto_stays c.args.size c.args.zero_digit c.args.most c.args.cur.now c.loop-count.cur c.next_character.new.cur c.loop-count.count c.loop-count.so_far.count c.loop-count.so_far.value c.loop-count.so_far.leading_zero c.loop-count.invariant c.in-Err.ensures.stays

pub loop-count-preserved : goal.loop-count-preserved
loop-count-preserved c =
    let p = subst (PassedCharacter c.args.size c.args.zero_digit c.args.end.now c.loop-count.cur c.next_character.new.cur) c.in-Digit.is c.in-Ok.ensures.character in
    upto_next c.args.size c.args.zero_digit c.args.most c.args.cur.now c.loop-count.cur c.next_character.new.cur c.loop-count.count c.loop-count.so_far.count c.loop-count.so_far.value c.in-Digit.digit c.one_more-so_far.result.count c.one_more-so_far.result.value c.loop-count.so_far.leading_zero c.one_more-so_far.result.leading_zero
    c.requires.zero_digit c.loop-count.invariant c.if-count-most.false c.loop-count-test.true p c.one_more-so_far.ensures.count c.one_more-so_far.ensures.digits
