use Rattle.acn_text.proofs.Numbered.{push_character}
use Rattle.acn_text.proofs.writer.number_of_all.Goals as goal
use Rattle.acn_grammar.proofs.TextRules.{text_rules}

pub loop-c-preserved : goal.loop-c-preserved
loop-c-preserved c = push_character c.args.leaf.now (text_rules c.args.leaf.now c.requires.fine) c.args.characters.now c.loop-c.c-index c.number_of.result c.loop-c.all c.loop-c-test.true c.requires.few c.requires.width c.requires.fit c.number_of.ensures c.loop-c.invariant
