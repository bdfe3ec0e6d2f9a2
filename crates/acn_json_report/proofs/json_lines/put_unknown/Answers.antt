use Rattle.acn_json_report.proofs.json_lines.put_unknown.Goals as goal

pub returns : goal.returns
returns g c = rw (← c.from.ensures) c.put_parts.ensures
