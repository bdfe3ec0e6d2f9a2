use Rattle.std.proofs.Common.{◌≡◌, ◌+◌, drop, map, string_bytes}
use Rattle.acn_words.specs.Routes.{count_routes}
use Rattle.acn_words.proofs.routes.count_routes.Given as goal

abbrev pub invariant-loop-i : goal.invariant-loop-i
invariant-loop-i l = l.i + count_routes (map string_bytes (drop l.i l.words)) ≡ count_routes (map string_bytes l.words)
