use Rattle.std.proofs.Common.{◌≡◌, drop, map, ◌++◌}
use Rattle.acn_reasons.specs.Named.{paths_view}
use Rattle.acn_reasons.specs.Paths.{condition_path}
use Rattle.acn_reasons.proofs.paths.push_conditions.Given as goal

abbrev pub invariant-loop-condition : goal.invariant-loop-condition
invariant-loop-condition l = paths_view l.all.items ++ map condition_path (drop l.condition-index l.conditions) ≡ paths_view l.fn.all.items ++ map condition_path l.conditions
