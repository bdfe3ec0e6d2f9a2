use Rattle.std.proofs.Common.{◌≡◌, drop, map, string_bytes}
use Rattle.std.specs.List.{list_all}
use Rattle.acn_words.specs.Routes.{is_route}
use Rattle.acn_words.proofs.route_words.all_are_routes.Given as goal

abbrev pub invariant-loop-word : goal.invariant-loop-word
invariant-loop-word l = list_all is_route (map string_bytes (drop l.word-index l.words)) ≡ list_all is_route (map string_bytes l.words)
