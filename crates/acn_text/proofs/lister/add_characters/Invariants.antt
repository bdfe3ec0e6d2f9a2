use Rattle.std.proofs.Common.{◌≡◌, ◌++◌, take}
use Rattle.acn_text.specs.Steps.{character_bits}
use Rattle.acn_text.proofs.lister.add_characters.Given as goal

abbrev pub invariant-loop-c : goal.invariant-loop-c
invariant-loop-c l = (l.list ≡ l.fn.list ++ character_bits l.leaf (take l.c-index l.text))
