use Rattle.std.proofs.Common.{nat_abs}
use Rattle.acn_tree.specs.Made.{number, is}
use Rattle.acn_tree.proofs.Parts.{value_turn, state_turn, state_done}
use Rattle.acn_tree.proofs.make_parts.some_characters.Goals as goal

pub loop-preserved : goal.loop-preserved
loop-preserved c = record {
  value = rw c.in_ok-push.ensures.ok (value_turn (λ s. is nat_abs (number c.args.leaf.now.alphabet s)) c.args.n c.loop.counter c.loop.draw c.character.new.draw c.character.result c.loop.characters _ c.loop-test.true c.character.ensures.value c.character.ensures.draw c.loop.invariant.value);
  state = state_turn (λ s. is nat_abs (number c.args.leaf.now.alphabet s)) c.args.n c.loop.counter c.loop.draw c.character.new.draw _ c.loop-test.true c.character.ensures.draw c.loop.invariant.state;
}

pub returns-clause-draw : goal.returns-clause-draw
returns-clause-draw c = state_done (λ s. is nat_abs (number c.args.leaf.now.alphabet s)) c.args.n c.loop.counter c.loop.draw _ c.loop-test.false c.loop.invariant.state
