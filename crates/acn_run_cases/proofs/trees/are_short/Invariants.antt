use Rattle.std.proofs.Common.{◌≡◌, ℕ, ◌<◌, ◌≤◌, Some, length}
use Rattle.std.specs.Prelude.{slice_get}
use Rattle.acn_num.specs.declared.limits.TheConstants.{MOST_FILE_BYTES}
use Rattle.acn_sources.specs.declared.sources.File.{File}
use Rattle.acn_run_cases.proofs.trees.are_short.Given as goal

abbrev pub invariant-loop-file : goal.invariant-loop-file
invariant-loop-file l = (n : ℕ) (f : File) → n < l.file-index → slice_get l.files n ≡ Some f → length f.bytes.now ≤ MOST_FILE_BYTES
