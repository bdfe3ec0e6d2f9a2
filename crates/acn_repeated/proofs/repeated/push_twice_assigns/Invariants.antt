use Rattle.std.proofs.Common.{◌≡◌, drop, ◌++◌}
use Rattle.std.specs.Prelude.{map}
use Rattle.acn_asn_syntax.specs.View.{assign_view}
use Rattle.acn_world.specs.Repeated.{twice_items}
use Rattle.acn_repeated.specs.Named.{names_view}
use Rattle.acn_repeated.proofs.repeated.push_twice_assigns.Given as goal

abbrev pub invariant-loop-item : goal.invariant-loop-item
invariant-loop-item l = names_view l.all.items ++ twice_items l.seen (map assign_view (drop l.item-index l.items)) ≡ names_view l.fn.all.items ++ twice_items l.fn.seen (map assign_view l.items)
