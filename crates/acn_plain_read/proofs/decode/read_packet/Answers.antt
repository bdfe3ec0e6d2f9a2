use Rattle.acn_num.specs.Bits.{bits}
use Rattle.acn_grammar.specs.View.{grammar_of}
use Rattle.acn_reads.proofs.Tops.{only_front, only_fault}
use Rattle.acn_plain_read.proofs.decode.read_packet.Goals as goal

pub returns-in-Ok-clause-alone : goal.returns-in-Ok-clause-alone
returns-in-Ok-clause-alone c = only_front (grammar_of c.args.root.now) (bits c.args.bytes.now) _ _ c.requires.accepted c.one_front.ensures c.fronts_exclude_failures.ensures c.in-Ok.ensures.front

pub returns-in-Err-clause-only : goal.returns-in-Err-clause-only
returns-in-Err-clause-only c = only_fault (grammar_of c.args.root.now) (bits c.args.bytes.now) c.in-Err.refuse c.requires.accepted c.fronts_exclude_failures.ensures c.one_failure.ensures c.in-Err.ensures.fault
