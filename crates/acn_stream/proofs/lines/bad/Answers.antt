use Rattle.std.proofs.Common.{refl}
use Rattle.acn_json.specs.Reads.{shape, unknown_member, missing_member}
use Rattle.acn_json.specs.declared.json_fault.JsonFault.TheVariants.{Shape, UnknownMember, MissingMember}
use Rattle.acn_stream.proofs.LinesGiving.{bad_line}
use Rattle.acn_stream.proofs.lines.bad.Goals as goal

pub returns-in-Shape : goal.returns-in-Shape
returns-in-Shape c g line blank h = bad_line g line (Shape c.in-Shape.path) (shape c.in-Shape.path) blank refl (rw c.in-Shape.is at h)

pub returns-in-UnknownMember : goal.returns-in-UnknownMember
returns-in-UnknownMember c g line blank h =
    bad_line g line (UnknownMember c.in-UnknownMember.path c.in-UnknownMember.member) (unknown_member c.in-UnknownMember.path c.in-UnknownMember.member) blank refl (rw c.in-UnknownMember.is at h)

pub returns-in-MissingMember : goal.returns-in-MissingMember
returns-in-MissingMember c g line blank h = bad_line g line (MissingMember c.in-MissingMember.path) (missing_member c.in-MissingMember.path) blank refl (rw c.in-MissingMember.is at h)
