use Rattle.acn_lex.proofs.Exact.{are_tokens, are_few, is_fault, each_told, first_told}
use Rattle.acn_lex.proofs.lexing.lex.Goals as goal

pub returns-clause-tokens : goal.returns-clause-tokens
returns-clause-tokens c = are_tokens _ _ c.by_turns.ensures

pub returns-clause-few : goal.returns-clause-few
returns-clause-few c = are_few _ _ c.by_turns.ensures

pub returns-clause-each : goal.returns-clause-each
returns-clause-each c = each_told _ _ c.by_turns.ensures

pub returns-clause-fault : goal.returns-clause-fault
returns-clause-fault c = is_fault _ _ c.by_turns.ensures

pub returns-clause-first : goal.returns-clause-first
returns-clause-first c = first_told _ _ c.by_turns.ensures
