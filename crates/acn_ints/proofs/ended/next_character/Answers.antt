use Rattle.acn_ints.proofs.EndedLemmas.{digit_passed, end_stands, rest_wrong, stays_rest}
use Rattle.acn_grammar.specs.ReadFaults.{reason_of}
use Rattle.acn_ints.proofs.ended.next_character.Goals as goal

pub returns-in-Some-clause-character : goal.returns-in-Some-clause-character
returns-in-Some-clause-character c = digit_passed c.args.size c.args.zero_digit c.args.cur.now c.bits_of.new.cur c.in-Ok.v c.in-Some.digit c.in-Ok.ensures.taken c.in-Some.ensures.0 c.in-Some.ensures.1

pub returns-in-Ok-rest_of_end-clause-character : goal.returns-in-Ok-rest_of_end-clause-character
returns-in-Ok-rest_of_end-clause-character c = end_stands c.args.size c.in-Ok.v c.args.end.now c.args.cur.now c.bits_of.new.cur c.rest_of_end.new.cur c.requires.long c.in-Ok.ensures.taken c.in-Ok-rest_of_end.ensures.end

pub returns-in-Err-rest_of_end-clause-wrong : goal.returns-in-Err-rest_of_end-clause-wrong
returns-in-Err-rest_of_end-clause-wrong c = rest_wrong c.args.size c.args.zero_digit c.in-Ok.v c.args.end.now c.args.cur.now c.bits_of.new.cur (reason_of c.in-Err-rest_of_end.fault) c.requires.long c.in-Ok.ensures.taken c.in-None.ensures c.in-Err-rest_of_end.ensures.wrong

pub returns-in-Err-rest_of_end-clause-stays : goal.returns-in-Err-rest_of_end-clause-stays
returns-in-Err-rest_of_end-clause-stays c = stays_rest c.args.size c.in-Ok.v c.args.cur.now c.bits_of.new.cur c.rest_of_end.new.cur c.in-Ok.ensures.taken c.in-Err-rest_of_end.ensures.stays
