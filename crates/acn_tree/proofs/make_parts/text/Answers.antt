use Rattle.acn_tree.proofs.Drawn.{alphabet_is}
use Rattle.acn_tree.proofs.make_parts.text.Goals as goal

pub size-n-requires : goal.size-n-requires
size-n-requires c = (alphabet_is c.args.leaf.now c.requires).0

pub returns-clause-value : goal.returns-clause-value
returns-clause-value c = rw (c.size-n.ensures.value, c.size-n.ensures.draw) at c.some_characters.ensures.value

pub returns-clause-draw : goal.returns-clause-draw
returns-clause-draw c = rw (c.size-n.ensures.value, c.size-n.ensures.draw) at c.some_characters.ensures.draw
