use Rattle.std.proofs.Common.{subst, List, Bool}
use Rattle.acn_grammar.specs.ReadFaults.{reason_of}
use Rattle.acn_ints.specs.EndedReads.{PassedEnded, EndedWrong}
use Rattle.acn_ints.proofs.EndedCodes.{plain_said_at, plain_not_minimal_at, plain_wrong}
use Rattle.acn_ints.proofs.ended_codings.read_ascii_ended.Goals as goal

pub returns-in-Ok-clause-said : goal.returns-in-Ok-clause-said
returns-in-Ok-clause-said c =
    let read = subst (λ (end : List Bool). PassedEnded 8 48 end c.args.most c.args.cur.now c.read_ended.new.cur c.in-Ok.digits.magnitude c.in-Ok.digits.minimal) c.bits.ensures.same c.in-Ok.ensures.read in
    plain_said_at c.args.end.now c.args.most c.in-Ok.digits.magnitude c.in-Ok.digits.minimal c.args.cur.now c.read_ended.new.cur c.with_sign.result read c.with_sign.ensures.wire c.with_sign.ensures.image

pub returns-in-Ok-clause-wrong : goal.returns-in-Ok-clause-wrong
returns-in-Ok-clause-wrong c =
    let read = subst (λ (end : List Bool). PassedEnded 8 48 end c.args.most c.args.cur.now c.read_ended.new.cur c.in-Ok.digits.magnitude c.in-Ok.digits.minimal) c.bits.ensures.same c.in-Ok.ensures.read in
    plain_not_minimal_at c.args.end.now c.args.most c.in-Ok.digits.magnitude c.in-Ok.digits.minimal c.args.cur.now c.read_ended.new.cur c.with_sign.result read c.with_sign.ensures.wrong

pub returns-in-Err-clause-wrong : goal.returns-in-Err-clause-wrong
returns-in-Err-clause-wrong c =
    let w = subst (λ (end : List Bool). EndedWrong 8 48 end c.args.most c.args.cur.now.rest (reason_of c.in-Err.fault)) c.bits.ensures.same c.in-Err.ensures.wrong in
    plain_wrong c.args.end.now c.args.most c.args.cur.now c.in-Err.fault w
