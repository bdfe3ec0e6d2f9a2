use Rattle.std.proofs.Common.{refl, arith, length, ap}
use Rattle.acn_grammar.specs.LeafFails.{too_long}
use Rattle.acn_reads.proofs.EndReads.{unended_long}
use Rattle.acn_reads.proofs.ends.no_end.Goals as goal

pub returns-else-left-bits-clause-fails : goal.returns-else-left-bits-clause-fails
returns-else-left-bits-clause-fails c =
    let more = c.if-left-bits.false in
    let left = c.left.ensures in
    let long = ap length c.bits.ensures.same in
    (refl, (too_long, c.named-else-left-bits.ensures, unended_long c.args.end.now c.args.cur.now.rest (omega (arith, more, left, long)) c.requires))
