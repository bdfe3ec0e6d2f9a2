use Rattle.acn_grammar.specs.View.{grammar_of}
use Rattle.acn_warnings.proofs.Telling.{some_packet, not_told}
use Rattle.acn_warnings.proofs.packets.has_no_packet.Goals as goal

pub returns-in-Ok-Some : goal.returns-in-Ok-Some
returns-in-Ok-Some c = some_packet (grammar_of c.args.checked.now.tree.root) _ (rw c.in-Ok-Some.field-0-is at c.in-Ok-Some.ensures.ends)

pub returns-in-Ok-None : goal.returns-in-Ok-None
returns-in-Ok-None c = rw c.in-Ok-None.field-0-is at c.in-Ok-None.ensures.ends

pub returns-in-Err-NotSingle : goal.returns-in-Err-NotSingle
returns-in-Err-NotSingle c = not_told (grammar_of c.args.checked.now.tree.root) _ _ (rw c.in-Err-NotSingle.field-0-is at c.in-Err-NotSingle.ensures.fault)
