use Rattle.std.proofs.Common.{refl}
use Rattle.acn_grammar.specs.View.{data_of}
use Rattle.acn_unpack.proofs.values.ValuesKeep.number.Goals as goal

pub returns : goal.returns
returns c = (data_of c.number_value.result, refl, c.number_value.ensures)
