use Rattle.std.proofs.Common.{◌≡◌, length}
use Rattle.acn_words.specs.Names as spec
use Rattle.acn_words.proofs.names.are_word_bytes.Given as goal

abbrev pub invariant-loop-rest : goal.invariant-loop-rest
invariant-loop-rest l = spec.are_word_bytes l.rest ≡ spec.are_word_bytes l.bytes

abbrev pub decreases-loop-rest : goal.decreases-loop-rest
decreases-loop-rest l = length l.rest
