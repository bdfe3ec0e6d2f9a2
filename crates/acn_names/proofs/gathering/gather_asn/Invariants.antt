use Rattle.std.proofs.Common.{◌≡◌}
use Rattle.std.specs.Prelude.{map}
use Rattle.acn_asn_syntax.specs.View.{module_view}
use Rattle.acn_index.specs.World.{asn_modules}
use Rattle.acn_names.proofs.gathering.gather_asn.Given as goal

abbrev pub invariant-loop-file : goal.invariant-loop-file
invariant-loop-file l = map module_view l.all.items ≡ asn_modules l.yielded
