use Rattle.std.proofs.Common.{◌≡◌, drop, map, string_bytes}
use Rattle.std.specs.List.{list_any}
use Rattle.acn_words.specs.Files.{has_modules}
use Rattle.acn_words.proofs.files.one_has_modules.Given as goal

abbrev pub invariant-loop-word : goal.invariant-loop-word
invariant-loop-word l = list_any has_modules (map string_bytes (drop l.word-index l.words)) ≡ list_any has_modules (map string_bytes l.words)
