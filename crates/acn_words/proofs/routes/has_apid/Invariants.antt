use Rattle.std.proofs.Common.{◌≡◌, drop, map, string_bytes}
use Rattle.acn_words.specs.Routes.{has_apid}
use Rattle.acn_words.proofs.routes.has_apid.Given as goal

abbrev pub invariant-loop-word : goal.invariant-loop-word
invariant-loop-word l = has_apid l.apid (map string_bytes (drop l.word-index l.routes)) ≡ has_apid l.apid (map string_bytes l.routes)
