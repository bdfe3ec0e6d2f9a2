use Rattle.std.proofs.Common.{◌≡◌, drop, map, string_bytes}
use Rattle.acn_words.specs.Faults.{stranger}
use Rattle.acn_words.proofs.faults.stranger.Given as goal

abbrev pub invariant-loop-word : goal.invariant-loop-word
invariant-loop-word l = stranger (map string_bytes (drop l.word-index l.words)) ≡ stranger (map string_bytes l.words)
