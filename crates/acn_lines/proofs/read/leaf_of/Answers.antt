use Rattle.acn_lines.proofs.ReadLaw.{num_read}
use Rattle.acn_lines.proofs.read.leaf_of.Goals as goal

pub returns-in-Num : goal.returns-in-Num
returns-in-Num c = λ d old new h. num_read c.args.node.now c.in-Num.leaf d old new c.in-Num.is h
