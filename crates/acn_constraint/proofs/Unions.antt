-- A union of written elements is that of their sets.
use Rattle.std.proofs.Common.{◌≡◌, ℕ, refl}
use Rattle.acn_num.specs.Ranges.{Ranges, union}
use Rattle.acn_num.specs.Unions.{unions}
use Rattle.acn_asn_syntax.specs.Mirror.{Meets, no_meets, and_meet}
use Rattle.acn_index.specs.World.{World}
use Rattle.acn_constraint.specs.Sets.{Reading, meet_in, meets_in}
use Rattle.acn_constraint.specs.Each.{each_meet}

pub joined : (w : World) (k : ℕ) (r : Reading) (more : Meets) (found before : Ranges) → unions found (each_meet w k r more before) ≡ meets_in w k r more found before
unfolding meets_in
joined w k r no_meets found before = refl
joined w k r (and_meet b m more) found before = joined w k r more (union found (meet_in w k r m before)) before
