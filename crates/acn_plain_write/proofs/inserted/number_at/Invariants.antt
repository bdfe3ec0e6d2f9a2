use Rattle.std.proofs.Common.{◌≡◌, drop}
use Rattle.acn_grammar.specs.Env.{at_slot}
use Rattle.acn_plain_write.proofs.inserted.number_at.Given as goal

abbrev pub invariant-loop-number : goal.invariant-loop-number
invariant-loop-number l = at_slot (drop l.number-index l.numbers) l.slot ≡ at_slot l.numbers l.slot
