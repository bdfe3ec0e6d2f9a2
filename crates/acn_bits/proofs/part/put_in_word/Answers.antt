use Rattle.std.proofs.Common.{refl}
use Rattle.acn_bits.proofs.Over.{word_changed}
use Rattle.acn_bits.proofs.part.put_in_word.Goals as goal

pub returns : goal.returns
returns c =
    word_changed c.args.buf.now c.to_be_bytes.result c.put_over.new.buf c.args.at c.args.skip c.args.n c.args.v _ c.word-word.result c.with_bits-changed.result c.requires.within c.requires.inside refl
    c.word-word.ensures c.with_bits-changed.type_inv c.with_bits-changed.ensures c.to_be_bytes.ensures c.put_over.ensures
