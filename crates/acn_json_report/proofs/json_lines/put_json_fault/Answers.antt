use Rattle.acn_json_report.proofs.json_lines.put_json_fault.Goals as goal

pub returns-in-Shape : goal.returns-in-Shape
returns-in-Shape g c = rw c.in-Shape.is c.put_at.ensures

pub returns-in-UnknownMember : goal.returns-in-UnknownMember
returns-in-UnknownMember g c = rw c.in-UnknownMember.is c.put_unknown.ensures

pub returns-in-MissingMember : goal.returns-in-MissingMember
returns-in-MissingMember g c = rw c.in-MissingMember.is c.put_at-in-MissingMember.ensures
