use Rattle.std.proofs.Common.{◌≡◌, drop, ◌++◌}
use Rattle.std.specs.Prelude.{map}
use Rattle.std.specs.List.{enumerate_from}
use Rattle.acn_asn_syntax.specs.View.{assign_view}
use Rattle.acn_index.specs.World.{place}
use Rattle.acn_index.proofs.places.push_module_places.Given as goal

abbrev pub invariant-loop-i : goal.invariant-loop-i
invariant-loop-i l = l.all.items ++ map (λ a. place l.k a.0) (enumerate_from l.i (map assign_view (drop l.i l.items))) ≡ l.fn.all.items ++ map (λ a. place l.k a.0) (enumerate_from 0 (map assign_view l.items))
