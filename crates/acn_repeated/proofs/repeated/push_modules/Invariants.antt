use Rattle.std.proofs.Common.{◌≡◌, drop, ◌++◌}
use Rattle.std.specs.Prelude.{map}
use Rattle.acn_asn_syntax.specs.View.{module_view}
use Rattle.acn_world.specs.Repeated.{asn_repeats}
use Rattle.acn_repeated.specs.Blamed.{blames_view}
use Rattle.acn_repeated.proofs.repeated.push_modules.Given as goal

abbrev pub invariant-loop-owner : goal.invariant-loop-owner
invariant-loop-owner l = blames_view l.all.items ++ asn_repeats l.seen (map module_view (drop l.owner-index l.modules)) ≡ blames_view l.fn.all.items ++ asn_repeats l.fn.seen (map module_view l.modules)
