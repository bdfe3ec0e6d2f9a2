use Rattle.std.proofs.Common.{◌≡◌, ℕ, drop, find}
use Rattle.std.specs.List.{enumerate_from}
use Rattle.acn_acn_syntax.specs.declared.modules.Attr.{Attr}
use Rattle.acn_sites.specs.Attributes.{is_of}
use Rattle.acn_sites.proofs.attributes.first_of.Given as goal

abbrev pub invariant-loop-i : goal.invariant-loop-i
invariant-loop-i l = find (λ (a : ℕ × Attr). is_of l.kind a.1) (enumerate_from l.i (drop l.i l.attributes)) ≡ find (λ (a : ℕ × Attr). is_of l.kind a.1) (enumerate_from 0 l.attributes)
