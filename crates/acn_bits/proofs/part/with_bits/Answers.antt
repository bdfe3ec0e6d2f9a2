use Rattle.std.proofs.Common.{refl}
use Rattle.acn_bits.proofs.Over.{can_take, bits_changed}
use Rattle.acn_bits.proofs.part.with_bits.Goals as goal

pub overflow_sub-result : goal.overflow_sub-result
overflow_sub-result c = can_take c.args.word c.args.behind c.args.n c.requires.within

pub overflow_add-result : goal.overflow_add-result
overflow_add-result c = record { fits = (bits_changed c.args.word c.args.behind c.args.n c.args.v _ c.requires.within c.ranges.word.fits refl).0 }

pub returns : goal.returns
returns c = (bits_changed c.args.word c.args.behind c.args.n c.args.v _ c.requires.within c.ranges.word.fits refl).1
