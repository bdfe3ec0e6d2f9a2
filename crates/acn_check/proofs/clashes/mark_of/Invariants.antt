use Rattle.std.proofs.Common.{◌≡◌, ◌<◌, ℕ, List, drop}
use Rattle.acn_grammar.specs.declared.node.Test.{Test}
use Rattle.acn_check.specs.First.{mark_from}
use Rattle.acn_check.specs.declared.clashes.TheConstants.{MARK_PRIME}
use Rattle.acn_check.proofs.clashes.mark_of.Given as goal

pub record Marked (mark : ℕ) (slots rest : List ℕ) (tests : List Test) : Type 0 where
  pub on : mark_from mark rest tests ≡ mark_from 0 slots tests
  pub small : mark < MARK_PRIME

abbrev pub invariant-loop-slot : goal.invariant-loop-slot
invariant-loop-slot l = Marked l.mark l.slots (drop l.slot-index l.slots) l.tests
