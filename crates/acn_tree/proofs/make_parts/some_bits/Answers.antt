use Rattle.std.proofs.Common.{◌≡◌, ℕ, nat_eq, ap, ◌∙◌, arith}
use Rattle.std.proofs.lemmas.Bool.Decides.{nat_tests}
use Rattle.acn_tree.specs.Made.{pick, is}
use Rattle.acn_tree.proofs.Parts.{value_turn, state_turn}
use Rattle.acn_tree.proofs.make_parts.some_bits.Goals as goal

turned : (m n : ℕ) → nat_eq n m ≡ nat_eq m n
turned m n = grind (arith, nat_tests)

pub loop-preserved : goal.loop-preserved
loop-preserved c = record {
  value = rw c.in_ok-push.ensures.ok (value_turn (λ s. is (nat_eq 1) (pick 2 s)) c.args.n c.loop.counter c.loop.draw c.pick.new.self _ c.loop.bits _ c.loop-test.true (ap (λ n. nat_eq n 1) c.pick.ensures.number ∙ turned 1 _) c.pick.ensures.draw c.loop.invariant.value);
  state = state_turn (λ s. is (nat_eq 1) (pick 2 s)) c.args.n c.loop.counter c.loop.draw c.pick.new.self _ c.loop-test.true c.pick.ensures.draw c.loop.invariant.state;
}
