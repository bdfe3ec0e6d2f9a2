use Rattle.std.proofs.Common.{arith}
use Rattle.acn_route.proofs.lines.put_planned.Goals as goal

pub unpack-requires : goal.unpack-requires
unpack-requires c = omega (arith, c.requires.few)

pub put_value-requires-clause-front : goal.put_value-requires-clause-front
put_value-requires-clause-front c = c.in-Ok.ensures.front _ c.requires.ready.planned

pub put_refused-requires-clause-refused : goal.put_refused-requires-clause-refused
put_refused-requires-clause-refused c = c.in-Err.ensures.fault _ c.requires.ready.planned
