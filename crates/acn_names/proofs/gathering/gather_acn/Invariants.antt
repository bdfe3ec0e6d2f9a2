use Rattle.std.proofs.Common.{◌≡◌}
use Rattle.std.specs.Prelude.{map}
use Rattle.acn_acn_syntax.specs.View.{module_of}
use Rattle.acn_index.specs.World.{acn_modules}
use Rattle.acn_names.proofs.gathering.gather_acn.Given as goal

abbrev pub invariant-loop-file : goal.invariant-loop-file
invariant-loop-file l = map module_of l.all.items ≡ acn_modules l.yielded
