use Rattle.std.proofs.Common.{subst, List, Bool}
use Rattle.acn_grammar.specs.ReadFaults.{reason_of}
use Rattle.acn_ints.specs.EndedReads.{PassedEnded, EndedWrong}
use Rattle.acn_bits.specs.Reading.{Stays}
use Rattle.acn_ints.proofs.EndedLemmas.{stays_at}
use Rattle.acn_ints.proofs.SignedCodes.{signed_said_at, signed_not_minimal_at, signed_wrong, sign_wrong, behind_stays, ended_stays}
use Rattle.acn_ints.proofs.ended_codings.read_signed_ended.Goals as goal

pub returns-in-Ok-read_ended-clause-said : goal.returns-in-Ok-read_ended-clause-said
returns-in-Ok-read_ended-clause-said c =
    let read = subst (λ (end : List Bool). PassedEnded 8 48 end c.args.most c.take_sign.new.cur c.read_ended.new.cur c.in-Ok-read_ended.digits.magnitude c.in-Ok-read_ended.digits.minimal) c.bits.ensures.same c.in-Ok-read_ended.ensures.read in
    signed_said_at c.args.end.now c.args.most c.in-Ok-read_ended.digits.magnitude c.in-Ok.negative c.in-Ok-read_ended.digits.minimal c.args.cur.now c.take_sign.new.cur c.read_ended.new.cur c.with_sign.result c.in-Ok.ensures.sign read c.with_sign.ensures.wire c.with_sign.ensures.image

pub returns-in-Ok-read_ended-clause-wrong : goal.returns-in-Ok-read_ended-clause-wrong
returns-in-Ok-read_ended-clause-wrong c =
    let read = subst (λ (end : List Bool). PassedEnded 8 48 end c.args.most c.take_sign.new.cur c.read_ended.new.cur c.in-Ok-read_ended.digits.magnitude c.in-Ok-read_ended.digits.minimal) c.bits.ensures.same c.in-Ok-read_ended.ensures.read in
    signed_not_minimal_at c.args.end.now c.args.most c.in-Ok-read_ended.digits.magnitude c.in-Ok.negative c.in-Ok-read_ended.digits.minimal c.args.cur.now c.take_sign.new.cur c.read_ended.new.cur c.with_sign.result c.in-Ok.ensures.sign read c.with_sign.ensures.wrong

pub returns-in-Ok-read_ended-clause-stays : goal.returns-in-Ok-read_ended-clause-stays
returns-in-Ok-read_ended-clause-stays c =
    stays_at c.with_sign.result (Stays c.args.cur.now c.read_ended.new.cur) (behind_stays c.args.cur.now c.take_sign.new.cur c.read_ended.new.cur c.in-Ok.negative c.in-Ok.ensures.sign
    (ended_stays 8 48 c.bits.result.now c.args.most c.take_sign.new.cur c.read_ended.new.cur c.in-Ok-read_ended.digits.magnitude c.in-Ok-read_ended.digits.minimal c.in-Ok-read_ended.ensures.read))

pub returns-in-Err-read_ended-clause-wrong : goal.returns-in-Err-read_ended-clause-wrong
returns-in-Err-read_ended-clause-wrong c =
    let w = subst (λ (end : List Bool). EndedWrong 8 48 end c.args.most c.take_sign.new.cur.rest (reason_of c.in-Err-read_ended.fault)) c.bits.ensures.same c.in-Err-read_ended.ensures.wrong in
    signed_wrong c.args.end.now c.args.most c.args.cur.now c.take_sign.new.cur c.in-Ok.negative c.in-Err-read_ended.fault c.in-Ok.ensures.sign w

pub returns-in-Err-read_ended-clause-stays : goal.returns-in-Err-read_ended-clause-stays
returns-in-Err-read_ended-clause-stays c = behind_stays c.args.cur.now c.take_sign.new.cur c.read_ended.new.cur c.in-Ok.negative c.in-Ok.ensures.sign c.in-Err-read_ended.ensures.stays

pub returns-in-Err-clause-wrong : goal.returns-in-Err-clause-wrong
returns-in-Err-clause-wrong c = sign_wrong c.args.end.now c.args.most c.args.cur.now c.in-Err.fault c.in-Err.ensures.wrong
