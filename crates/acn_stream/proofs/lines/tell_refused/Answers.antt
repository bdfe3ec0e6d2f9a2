use Rattle.acn_grammar.specs.Code.{Written}
use Rattle.acn_stream.proofs.lines.tell_refused.Goals as goal

pub unreachable-requires : goal.unreachable-requires
unreachable-requires c = c.requires.refused.1.unspelled Written c.in-Ok.ensures.packed.spelling c.in-Ok.ensures.packed.written
