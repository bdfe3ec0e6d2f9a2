use Rattle.std.proofs.Common.{◌≡◌, drop}
use Rattle.acn_lex.specs.Number.{read_from}
use Rattle.acn_lex.proofs.number.read_digits.Given as goal

abbrev pub invariant-loop-b : goal.invariant-loop-b
invariant-loop-b l = read_from l.n (drop l.b-index l.text) ≡ read_from 0 l.text
