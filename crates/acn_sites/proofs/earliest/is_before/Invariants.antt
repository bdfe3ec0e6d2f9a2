use Rattle.std.proofs.Common.{◌≡◌, drop}
use Rattle.acn_sites.specs.Places as spec
use Rattle.acn_sites.proofs.earliest.is_before.Given as goal

abbrev pub invariant-loop-i : goal.invariant-loop-i
invariant-loop-i l = spec.is_before (drop l.i l.a) (drop l.i l.b) ≡ spec.is_before l.a l.b
