use Rattle.std.proofs.Common.{◌≡◌, ◌+◌, ◌*◌, ◌≤◌, ℕ, Bool, List, drop, length}
use Rattle.acn_codings.specs.Literals.{text_bits}
use Rattle.acn_codings.proofs.literal.count_bits.Given as goal

pub record Counted (hex : Bool) (total index : ℕ) (text : List ℕ) : Type 0 where
  pub sum : total + length (text_bits hex (drop index text)) ≡ length (text_bits hex text)
  pub small : total ≤ 4 * index

abbrev pub invariant-loop-c : goal.invariant-loop-c
invariant-loop-c l = Counted l.hex l.total l.c-index l.text
