use Rattle.std.proofs.Common.{refl}
use Rattle.acn_grammar.specs.View.{grammar_of}
use Rattle.acn_tree_cases.proofs.packed.packed.Goals as goal

pub in_each-requires-clause-most : goal.in_each-requires-clause-most
in_each-requires-clause-most c = rw (c.requires.planned, c.steps_say_their_root.ensures (grammar_of c.args.checked.now.tree.root), c.requires.bounds) refl

pub in_each-requires-clause-shaped : goal.in_each-requires-clause-shaped
in_each-requires-clause-shaped c = rw (c.requires.planned, c.steps_say_their_root.ensures (grammar_of c.args.checked.now.tree.root)) c.requires.shaped
