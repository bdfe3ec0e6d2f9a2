use Rattle.std.proofs.Common.{◌≡◌, map, take, string_bytes}
use Rattle.acn_words.specs.Routes.{route_of}
use Rattle.acn_words.specs.View.{type_view}
use Rattle.acn_commands.proofs.routing.types_of.Given as goal

abbrev pub invariant-loop-i : goal.invariant-loop-i
invariant-loop-i l = map type_view l.names.items ≡ map (λ r. r.of) (take l.i (map route_of (map string_bytes l.words.words.now)))
