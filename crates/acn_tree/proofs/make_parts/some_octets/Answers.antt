use Rattle.acn_tree.specs.Made.{pick}
use Rattle.acn_tree.proofs.Parts.{value_turn, state_turn}
use Rattle.acn_tree.proofs.make_parts.some_octets.Goals as goal

pub loop-preserved : goal.loop-preserved
loop-preserved c = record {
  value = rw c.in_ok-push.ensures.ok (value_turn (pick 256) c.args.n c.loop.counter c.loop.draw c.pick.new.self c.pick.result c.loop.octets _ c.loop-test.true c.pick.ensures.number c.pick.ensures.draw c.loop.invariant.value);
  state = state_turn (pick 256) c.args.n c.loop.counter c.loop.draw c.pick.new.self _ c.loop-test.true c.pick.ensures.draw c.loop.invariant.state;
}
