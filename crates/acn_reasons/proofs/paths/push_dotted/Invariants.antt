use Rattle.std.proofs.Common.{◌≡◌, drop, ◌++◌}
use Rattle.acn_reasons.specs.Paths.{dotted}
use Rattle.acn_reasons.proofs.paths.push_dotted.Given as goal

abbrev pub invariant-loop-name : goal.invariant-loop-name
invariant-loop-name l = l.text.items ++ dotted (drop l.name-index l.names) ≡ l.fn.text.items ++ dotted l.names
