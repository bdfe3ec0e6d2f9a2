use Rattle.std.proofs.Common.{◌≡◌, ◌-◌, ◌++◌}
use Rattle.acn_tree.specs.Made.{pick, parts}
use Rattle.acn_tree.proofs.make_parts.some_octets.Given as goal

abbrev pub invariant-loop : goal.invariant-loop
invariant-loop l = record {
  value : l.octets ++ (parts (pick 256) (l.n - l.counter) l.draw).value ≡ (parts (pick 256) l.n l.fn.draw).value;
  state : (parts (pick 256) (l.n - l.counter) l.draw).state ≡ (parts (pick 256) l.n l.fn.draw).state;
}
