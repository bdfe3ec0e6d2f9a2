use Rattle.std.proofs.Common.{length, refl}
use Rattle.acn_writer.proofs.States.{bits_begun, copied}
use Rattle.acn_writer.proofs.writer.Writer.copy_bits.Goals as goal

pub returns-clause-ran : goal.returns-clause-ran
returns-clause-ran g c = copied c.args.self.now _ refl refl c.args.list.now (length c.args.list.now) refl c.put_bits.ensures

pub returns-clause-begun : goal.returns-clause-begun
returns-clause-begun g c homes = bits_begun c.args.self.now _ refl refl homes c.args.list.now (length c.args.list.now) refl c.put_bits.ensures
