use Rattle.std.proofs.Common.{◌≡◌, length, map, string_bytes}
use Rattle.acn_words.specs.Routes.{route_of}
use Rattle.acn_commands.specs.Routed.{listed_by}
use Rattle.acn_commands.proofs.routing.routes_of.Given as goal

abbrev pub invariant-loop-checked : goal.invariant-loop-checked
invariant-loop-checked l = (l.i ≡ length l.yielded) × (l.routes ≡ listed_by (map route_of (map string_bytes l.words.words.now)) (map (λ c. c.tree) l.yielded))
