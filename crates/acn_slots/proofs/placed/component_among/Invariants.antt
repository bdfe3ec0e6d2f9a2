use Rattle.std.proofs.Common.{◌≡◌, ℕ, drop, find}
use Rattle.std.specs.Prelude.{map}
use Rattle.std.specs.List.{enumerate_from}
use Rattle.std.specs.Str.{bytes_eq}
use Rattle.acn_asn_syntax.specs.Mirror.{Component}
use Rattle.acn_asn_syntax.specs.View.{component_view}
use Rattle.acn_slots.proofs.placed.component_among.Given as goal

abbrev pub invariant-loop-i : goal.invariant-loop-i
invariant-loop-i l = find (λ (c : ℕ × Component). bytes_eq c.1.name l.name) (enumerate_from l.i (map component_view (drop l.i l.components))) ≡ find (λ (c : ℕ × Component). bytes_eq c.1.name l.name) (enumerate_from 0 (map component_view l.components))
