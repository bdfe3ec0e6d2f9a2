use Rattle.std.proofs.Common.{◌∙◌}
use Rattle.acn_report.proofs.lines.put_empty_packet.Goals as goal

pub returns : goal.returns
returns g c = rw (← (c.bytes.ensures ∙ c.name.ensures)) c.put_parts.ensures
