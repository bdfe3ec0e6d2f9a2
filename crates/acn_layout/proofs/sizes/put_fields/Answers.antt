use Rattle.std.proofs.Common.{ap}
use Rattle.acn_layout.specs.Codings.{fields_text}
use Rattle.acn_layout.proofs.Forms.{moved, count_fields}
use Rattle.acn_layout.proofs.sizes.put_fields.Goals as goal

pub returns : goal.returns
returns g c = moved _ _ _ _ _ (ap fields_text (count_fields c.args.fields.now)) c.put_parts.ensures
