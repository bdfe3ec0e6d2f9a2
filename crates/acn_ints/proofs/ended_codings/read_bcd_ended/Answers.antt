use Rattle.acn_ints.proofs.EndedCodes.{bcd_said_at, bcd_not_minimal_at, bcd_wrong}
use Rattle.acn_ints.proofs.ended_codings.read_bcd_ended.Goals as goal

pub returns-in-Ok-clause-said : goal.returns-in-Ok-clause-said
returns-in-Ok-clause-said c = bcd_said_at c.args.most c.in-Ok.digits.magnitude c.in-Ok.digits.minimal c.args.cur.now c.read_ended.new.cur c.with_sign.result c.in-Ok.ensures.read c.with_sign.ensures.wire c.with_sign.ensures.image

pub returns-in-Ok-clause-wrong : goal.returns-in-Ok-clause-wrong
returns-in-Ok-clause-wrong c = bcd_not_minimal_at c.args.most c.in-Ok.digits.magnitude c.in-Ok.digits.minimal c.args.cur.now c.read_ended.new.cur c.with_sign.result c.in-Ok.ensures.read c.with_sign.ensures.wrong

pub returns-in-Err-clause-wrong : goal.returns-in-Err-clause-wrong
returns-in-Err-clause-wrong c = bcd_wrong c.args.most c.args.cur.now c.in-Err.fault c.in-Err.ensures.wrong
