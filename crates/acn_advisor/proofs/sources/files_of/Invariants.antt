use Rattle.acn_sources.specs.Files.{AreShort}
use Rattle.acn_advisor.proofs.sources.files_of.Given as goal

abbrev pub invariant-loop-name : goal.invariant-loop-name
invariant-loop-name l = AreShort l.all.items
