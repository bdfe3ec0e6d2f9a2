use Rattle.acn_grammar.proofs.TextRules.{text_rules}
use Rattle.acn_extremes.proofs.parts.best_text.Goals as goal

pub character_by-character-requires : goal.character_by-character-requires
character_by-character-requires c = (text_rules c.args.leaf.now c.requires).small

pub best_size-requires : goal.best_size-requires
best_size-requires c = (text_rules c.args.leaf.now c.requires).sizes
