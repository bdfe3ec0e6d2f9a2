use Rattle.std.proofs.Common.{arith, length}
use Rattle.acn_text.proofs.Fine.{width_few, size_fits}
use Rattle.acn_text.proofs.Spelled.{meets_text, text_numbers}
use Rattle.acn_text.proofs.lister.add_text.Goals as goal
use Rattle.acn_grammar.proofs.TextRules.{text_rules}

pub add_size-requires : goal.add_size-requires
add_size-requires c = size_fits c.args.leaf.now (length c.args.text.now) (text_rules c.args.leaf.now c.requires.fine) c.in-None.is (meets_text c.args.leaf.now c.args.text.now c.requires.meets).size

pub add_characters-requires-clause-width : goal.add_characters-requires-clause-width
add_characters-requires-clause-width c = let w = width_few c.args.leaf.now (text_rules c.args.leaf.now c.requires.fine) in omega (arith, w)

pub add_characters-requires-clause-fit : goal.add_characters-requires-clause-fit
add_characters-requires-clause-fit c = text_numbers c.args.leaf.now (text_rules c.args.leaf.now c.requires.fine) c.args.text.now (meets_text c.args.leaf.now c.args.text.now c.requires.meets)

pub add_characters-requires-in-Some-clause-width : goal.add_characters-requires-in-Some-clause-width
add_characters-requires-in-Some-clause-width c = let w = width_few c.args.leaf.now (text_rules c.args.leaf.now c.requires.fine) in omega (arith, w)

pub add_characters-requires-in-Some-clause-fit : goal.add_characters-requires-in-Some-clause-fit
add_characters-requires-in-Some-clause-fit c = text_numbers c.args.leaf.now (text_rules c.args.leaf.now c.requires.fine) c.args.text.now (meets_text c.args.leaf.now c.args.text.now c.requires.meets)
