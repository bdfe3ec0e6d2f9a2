use Rattle.acn_lex.proofs.NumberLemmas.{number_found, number_again}
use Rattle.acn_lex.proofs.laws.numbers_are_decimal.Goals as goal

pub returns-clause-spelled : goal.returns-clause-spelled
returns-clause-spelled c = number_found

pub returns-clause-each : goal.returns-clause-each
returns-clause-each c = number_again
