use Rattle.std.proofs.Common.{◌≡◌, ◌-◌, length, take, true}
use Rattle.acn_grammar.specs.Asks.{field_of}
use Rattle.acn_grammar.specs.Tree.{holds}
use Rattle.acn_asking.specs.Gathered.{paths_of, slots_of}
use Rattle.acn_asking.proofs.opened.open_slot.Given as goal

abbrev pub invariant-loop-k : goal.invariant-loop-k
invariant-loop-k l = record {
  there : holds (slots_of (take (length l.slots - l.k) l.slots)) l.slot ≡ true;
  field : field_of (paths_of (take (length l.slots - l.k) l.slots)) l.slot ≡ field_of (paths_of l.slots) l.slot;
}
