use Rattle.std.proofs.Common.{◌≡◌, take}
use Rattle.acn_num.specs.Bits.{number}
use Rattle.acn_text.specs.Steps.{character_bits}
use Rattle.acn_text.proofs.writer.number_of_all.Given as goal

abbrev pub invariant-loop-c : goal.invariant-loop-c
invariant-loop-c l = l.all ≡ number (character_bits l.leaf (take l.c-index l.characters))
