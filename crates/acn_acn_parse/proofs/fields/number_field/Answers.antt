use Rattle.acn_acn_syntax.proofs.Views.{view_number}
use Rattle.acn_acn_parse.proofs.fields.number_field.Goals as goal

pub returns : goal.returns
returns c = view_number c.args.name c.args.n
