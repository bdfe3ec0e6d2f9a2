use Rattle.std.proofs.Common.{◌-◌, length, drop}
use Rattle.std.specs.Prelude.{map}
use Rattle.std.specs.List.{AllByRecursion}
use Rattle.acn_determinants.specs.Determinants.{IsLeafIn}
use Rattle.acn_asking.specs.Gathered.{Opened, at_path}
use Rattle.acn_asking.proofs.opened.open_all.Given as goal

abbrev pub invariant-loop-k : goal.invariant-loop-k
invariant-loop-k l = Opened (map (at_path l.path) (drop (length l.dets - l.k) l.dets)) (λ root. AllByRecursion (IsLeafIn root) l.dets) l.fn.slots.items l.slots.items
