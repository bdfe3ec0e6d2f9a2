use Rattle.acn_acn_syntax.proofs.Views.{view_inserted}
use Rattle.acn_acn_parse.proofs.fields.inserted_field.Goals as goal

pub returns : goal.returns
returns c = view_inserted c.args.name c.args.kind c.args.attributes
