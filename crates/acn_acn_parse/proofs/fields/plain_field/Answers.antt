use Rattle.acn_acn_syntax.proofs.Views.{view_plain}
use Rattle.acn_acn_parse.proofs.fields.plain_field.Goals as goal

pub returns : goal.returns
returns c = view_plain c.args.name c.args.arguments c.args.attributes c.args.fields
