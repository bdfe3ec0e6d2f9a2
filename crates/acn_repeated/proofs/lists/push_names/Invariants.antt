use Rattle.std.proofs.Common.{◌≡◌, drop, ◌++◌}
use Rattle.acn_repeated.specs.Named.{names_view}
use Rattle.acn_repeated.proofs.lists.push_names.Given as goal

abbrev pub invariant-loop-one : goal.invariant-loop-one
invariant-loop-one l = names_view l.all.items ++ drop l.one-index l.names ≡ names_view l.fn.all.items ++ l.names
