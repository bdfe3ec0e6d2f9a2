use Rattle.std.proofs.Common.{◌∙◌}
use Rattle.acn_sites.proofs.Before.{second_ends, first_ends}
use Rattle.acn_sites.proofs.earliest.is_before.Goals as goal

pub returns-in-None : goal.returns-in-None
returns-in-None c = second_ends c.args.a.now c.args.b.now c.loop-i.i (c.in-None.ensures {u = tt}).lookup.3 ∙ c.loop-i.invariant

pub returns : goal.returns
returns c = first_ends c.args.a.now c.args.b.now c.loop-i.i c.loop-i-test.false c.loop-i.auto.i-end ∙ c.loop-i.invariant
