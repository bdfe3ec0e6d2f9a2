use Rattle.std.proofs.Common.{refl}
use Rattle.acn_grammar.specs.View.{data_of}
use Rattle.acn_reads.proofs.Nodes.{ok_map}
use Rattle.acn_unpack.proofs.Halting.{tells_all}
use Rattle.acn_unpack.proofs.values.ValuesKeep.text.Goals as goal

pub returns-clause-read : goal.returns-clause-read
returns-clause-read c = ok_map c.read_text.result _ _ (λ v p. (data_of v, refl, p)) c.read_text.ensures.read

pub returns-clause-fails : goal.returns-clause-fails
returns-clause-fails c = tells_all c.read_text.result _ _ refl c.read_text.ensures.fails
