use Rattle.std.specs.Prelude.{map}
use Rattle.acn_codings.specs.Tables.{line_of, table_fault}
use Rattle.acn_fold_laws.proofs.Faults.{is_one_to_one, has_no_fault}
use Rattle.acn_fold_laws.proofs.laws.tables_without_fault_are_one_to_one.Goals as goal

pub returns : goal.returns
unfolding table_fault
returns c = λ ls. (is_one_to_one (map line_of ls), has_no_fault (map line_of ls))
