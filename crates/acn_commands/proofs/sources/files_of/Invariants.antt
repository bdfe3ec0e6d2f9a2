use Rattle.std.proofs.Common.{map, string_bytes, take}
use Rattle.acn_commands.specs.Asked.{AreFilesOf}
use Rattle.acn_commands.proofs.sources.files_of.Given as goal

abbrev pub invariant-loop-number : goal.invariant-loop-number
invariant-loop-number l = AreFilesOf (take l.number (map string_bytes l.names)) (take l.number (map (λ v. v.items) l.contents)) l.all.items
