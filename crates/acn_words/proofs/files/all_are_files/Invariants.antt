use Rattle.std.proofs.Common.{◌≡◌, drop, map, string_bytes}
use Rattle.std.specs.List.{list_all}
use Rattle.acn_words.specs.Files.{is_file}
use Rattle.acn_words.proofs.files.all_are_files.Given as goal

abbrev pub invariant-loop-word : goal.invariant-loop-word
invariant-loop-word l = list_all is_file (map string_bytes (drop l.word-index l.words)) ≡ list_all is_file (map string_bytes l.words)
