use Rattle.std.proofs.Common.{◌≡◌, ◌++◌, drop, map}
use Rattle.std.specs.List.{zip}
use Rattle.acn_asn_syntax.specs.declared.types.Item.{Item}
use Rattle.acn_written.specs.View.{numbered_view}
use Rattle.acn_written.proofs.items.with_names.Given as goal

abbrev pub invariant-loop-i : goal.invariant-loop-i
invariant-loop-i l = map numbered_view l.all.items ++ zip (map (λ (i : Item). i.name) (drop l.i l.items)) (drop l.i l.numbers) ≡ zip (map (λ (i : Item). i.name) l.items) l.numbers
