use Rattle.std.specs.Prelude.{[]}
use Rattle.acn_codings.specs.Tables.{line_of, keys_to}
use Rattle.acn_fold_laws.proofs.Lines.{written_keys}
use Rattle.acn_fold_laws.proofs.laws.keys_to_lead_between.Goals as goal

pub returns : goal.returns
unfolding keys_to
returns c = λ low high ls x. written_keys low high line_of [] ls x tt
