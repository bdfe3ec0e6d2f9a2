use Rattle.acn_unpack.proofs.Passes.{some_value}
use Rattle.acn_unpack.proofs.nothing.NothingKeep.number.Goals as goal

pub returns : goal.returns
returns c = (let s = some_value c.args.arg2.now c.args.arg3.now c.requires.fine c.requires.permitted in (s.0, tt, s.1))
