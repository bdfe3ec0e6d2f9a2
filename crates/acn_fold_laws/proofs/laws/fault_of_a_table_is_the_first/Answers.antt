use Rattle.std.specs.Prelude.{map}
use Rattle.acn_codings.specs.Tables.{line_of, table_fault}
use Rattle.acn_fold_laws.proofs.Faults.{first_fault}
use Rattle.acn_fold_laws.proofs.laws.fault_of_a_table_is_the_first.Goals as goal

pub returns : goal.returns
unfolding table_fault
returns c = λ ls x e. first_fault (map line_of ls) x e
