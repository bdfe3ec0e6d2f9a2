use Rattle.acn_unpack.proofs.Halting.{halts_map, for_memory}
use Rattle.acn_unpack.proofs.packet.read_again.Goals as goal

pub returns-in-Err-clause-fails : goal.returns-in-Err-clause-fails
returns-in-Err-clause-fails types c = halts_map c.in-Err.stop _ _ _ _ (for_memory types.K.Keep.takes) (λ q at s. s) c.in-Err.ensures.fails
