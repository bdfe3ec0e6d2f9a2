use Rattle.acn_source_laws.proofs.OfFiles.{files_proper}
use Rattle.acn_source_laws.proofs.laws.sources_of_files_are_proper.Goals as goal

pub returns : goal.returns
returns c = λ files s are. files_proper _ s.asn are.asn
