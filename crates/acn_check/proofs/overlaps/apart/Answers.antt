use Rattle.std.proofs.Common.{map, sym, ◌∙◌}
use Rattle.acn_check.specs.Program.{det_of}
use Rattle.acn_check.proofs.TwoNumbers.{clash_overlapping}
use Rattle.acn_check.proofs.overlaps.apart.Goals as goal

pub returns-then-clash : goal.returns-then-clash
returns-then-clash c = clash_overlapping (map det_of c.args.dets.now) c.args.path.now c.args.one.at c.args.one.tests.now c.args.other.at c.args.other.tests.now (sym c.clash.ensures ∙ c.if-clash.true)
