use Rattle.acn_grammar.specs.View.{grammar_of}
use Rattle.acn_single.proofs.Here.{put, seen_is}
use Rattle.acn_single.proofs.lines.list_here.Goals as goal

pub returns : goal.returns
returns c = put c.push_line.result _ _ _ _ c.push_line.ensures (seen_is _ _ _ _ _ _ _ _ _ _ c.copy.ensures c.uses_one.ensures c.is_uncounted.ensures (c.is_alone.ensures (grammar_of c.args.slots.now.root.now)))
