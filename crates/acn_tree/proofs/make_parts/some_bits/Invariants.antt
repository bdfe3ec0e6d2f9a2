use Rattle.std.proofs.Common.{◌≡◌, ◌-◌, ◌++◌, nat_eq}
use Rattle.acn_tree.specs.Made.{pick, is, parts}
use Rattle.acn_tree.proofs.make_parts.some_bits.Given as goal

abbrev pub invariant-loop : goal.invariant-loop
invariant-loop l = record {
  value : l.bits ++ (parts (λ s. is (nat_eq 1) (pick 2 s)) (l.n - l.counter) l.draw).value ≡ (parts (λ s. is (nat_eq 1) (pick 2 s)) l.n l.fn.draw).value;
  state : (parts (λ s. is (nat_eq 1) (pick 2 s)) (l.n - l.counter) l.draw).state ≡ (parts (λ s. is (nat_eq 1) (pick 2 s)) l.n l.fn.draw).state;
}
