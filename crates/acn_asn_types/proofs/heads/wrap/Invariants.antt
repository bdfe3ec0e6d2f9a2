use Rattle.std.proofs.Common.{◌≡◌, length}
use Rattle.acn_asn_types.specs.Types as spec
use Rattle.acn_asn_types.proofs.heads.wrap.Given as goal

abbrev pub decreases-loop-head : goal.decreases-loop-head
decreases-loop-head l = length l.heads.items

abbrev pub invariant-loop-head : goal.invariant-loop-head
invariant-loop-head l = spec.wrap l.heads.items l.of ≡ spec.wrap l.fn.heads l.fn.inner
