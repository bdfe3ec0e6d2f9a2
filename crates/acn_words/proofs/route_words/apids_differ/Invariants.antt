use Rattle.std.proofs.Common.{◌≡◌, length, map, string_bytes}
use Rattle.acn_words.specs.Routes.{apids_differ}
use Rattle.acn_words.proofs.route_words.apids_differ.Given as goal

abbrev pub invariant-loop-rest : goal.invariant-loop-rest
invariant-loop-rest l = apids_differ (map string_bytes l.rest) ≡ apids_differ (map string_bytes l.routes)

abbrev pub decreases-loop-rest : goal.decreases-loop-rest
decreases-loop-rest l = length l.rest
