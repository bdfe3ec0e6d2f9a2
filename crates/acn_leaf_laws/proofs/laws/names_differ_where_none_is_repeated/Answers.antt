use Rattle.acn_leaf_laws.proofs.Repeats.{names_differ}
use Rattle.acn_leaf_laws.proofs.laws.names_differ_where_none_is_repeated.Goals as goal

pub returns : goal.returns
returns c = names_differ
