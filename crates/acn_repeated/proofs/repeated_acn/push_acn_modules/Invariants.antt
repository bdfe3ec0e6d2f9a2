use Rattle.std.proofs.Common.{◌≡◌, drop, ◌++◌}
use Rattle.std.specs.Prelude.{map}
use Rattle.acn_acn_syntax.specs.View.{module_of}
use Rattle.acn_world.specs.Repeated.{acn_repeats}
use Rattle.acn_repeated.specs.Blamed.{blames_view}
use Rattle.acn_repeated.proofs.repeated_acn.push_acn_modules.Given as goal

abbrev pub invariant-loop-owner : goal.invariant-loop-owner
invariant-loop-owner l = blames_view l.all.items ++ acn_repeats l.seen (map module_of (drop l.owner-index l.modules)) ≡ blames_view l.fn.all.items ++ acn_repeats l.fn.seen (map module_of l.modules)
