-- What a condition asks of its slot. (`present-when` of ACN.)
use Rattle.std.specs.Prelude.{ℕ, pos, Bool, true, false}
use Rattle.acn_grammar.specs.Asks.{Ask, Equal, Avoid}
use Rattle.acn_grammar.specs.declared.node.Test.{Test}
use Rattle.acn_grammar.specs.declared.node.Test.TheVariants.{Flag, Equals}

abbrev pub slot_of_test : Test → ℕ
slot_of_test (Flag s) = s
slot_of_test (Equals s k) = s

abbrev pub test_wants : (there : Bool) → Test → Ask
test_wants true (Flag s) = Equal (pos 1)
test_wants false (Flag s) = Equal (pos 0)
test_wants true (Equals s k) = Equal k
test_wants false (Equals s k) = Avoid k
