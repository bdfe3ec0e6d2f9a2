use Rattle.std.proofs.Common.{◌≡◌, drop}
use Rattle.std.specs.List.{list_any}
use Rattle.std.specs.Str.{bytes_eq}
use Rattle.acn_lex.specs.Words.{texts}
use Rattle.acn_lex.proofs.words.is_one_of.Given as goal

abbrev pub invariant-loop-word : goal.invariant-loop-word
invariant-loop-word l = list_any (bytes_eq l.fn.text) (texts (drop l.word-index l.words)) ≡ list_any (bytes_eq l.fn.text) (texts l.words)
