use Rattle.std.proofs.Common.{drop, map}
use Rattle.acn_events.specs.Event.{fills}
use Rattle.acn_pack.specs.Packs.{GoesOn}
use Rattle.acn_pack.proofs.leaves.fill_each.Given as goal

abbrev pub invariant-loop-slot : goal.invariant-loop-slot
invariant-loop-slot g l = record {
  done : GoesOn (map fills l.home) (map fills (drop l.slot-index l.home)) l.fn.w l.w;
}
