use Rattle.std.proofs.Common.{◌≡◌, ◌-◌, ◌++◌, nat_abs}
use Rattle.acn_tree.specs.Made.{is, number, parts}
use Rattle.acn_tree.proofs.make_parts.some_characters.Given as goal

abbrev pub invariant-loop : goal.invariant-loop
invariant-loop l = record {
  value : l.characters ++ (parts (λ s. is nat_abs (number l.leaf.alphabet s)) (l.n - l.counter) l.draw).value ≡ (parts (λ s. is nat_abs (number l.leaf.alphabet s)) l.n l.fn.draw).value;
  state : (parts (λ s. is nat_abs (number l.leaf.alphabet s)) (l.n - l.counter) l.draw).state ≡ (parts (λ s. is nat_abs (number l.leaf.alphabet s)) l.n l.fn.draw).state;
}
