use Rattle.acn_lex.proofs.Exact.{tokens_determined, faults_determined, faults_without_tokens}
use Rattle.acn_lex.proofs.laws.one_answer_holds.Goals as goal

pub returns-clause-tokens : goal.returns-clause-tokens
returns-clause-tokens c = tokens_determined

pub returns-clause-faults : goal.returns-clause-faults
returns-clause-faults c = faults_determined

pub returns-clause-apart : goal.returns-clause-apart
returns-clause-apart c = faults_without_tokens
