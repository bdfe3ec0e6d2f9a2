use Rattle.std.proofs.Common.{◌≡◌, ◌*◌, ◌++◌, length, drop}
use Rattle.acn_grammar.specs.Spell.{octet_numbers}
use Rattle.acn_terminators.proofs.ends.octets.Given as goal

abbrev pub invariant-loop-k : goal.invariant-loop-k
invariant-loop-k l = record {
  count : length l.octets.items ≡ l.k;
  same : l.octets.items ++ octet_numbers (drop (8 * l.k) l.bits) ≡ octet_numbers l.bits;
}
