-- What the types of proper sources hold: an ENUMERATED has an item (X.680 clause 20), and a CHOICE has an alternative (X.680 clause 29).
use Rattle.std.specs.Prelude.{◌<◌, ◌^◌, List, length}
use Rattle.acn_asn_syntax.specs.Modules.{tokens_of, IsProper}
use Rattle.acn_asn_syntax.specs.declared.modules.AsnModules.{AsnModules}
use Rattle.acn_graph.specs.Graph.{Among}
use Rattle.acn_index.specs.World.{world_of}
use Rattle.acn_index.specs.declared.sources.Sources.{Sources}
use Rattle.acn_sources.specs.Files.{AreSources}
use Rattle.acn_sources.specs.declared.sources.File.{File}
use Rattle.acn_tree_laws.specs.Laws.{IsOfSources}
use Rattle.acn_world.specs.Faults.{IsSound}

-- Each tree of ASN.1 is a proper one of fewer than 2^32 tokens. Such are the trees that `parse_asn` answers.
abbrev pub AreProper : Sources → Type 0
AreProper s = (t : AsnModules) → Among t s.asn → IsProper t × (length (tokens_of t) < 2 ^ 32)

-- The trees of files are proper.
abbrev pub SourcesOfFilesAreProper : Type 0
SourcesOfFilesAreProper = (files : List File) (s : Sources) → AreSources files s → AreProper s

-- So where `resolve` has a world of proper trees, `merge` makes trees of its types: each ENUMERATED in it has an item, and fewer than 2^64,
-- since each has a token, and each CHOICE has an alternative.
abbrev pub ProperSourcesGiveAWorld : Type 0
ProperSourcesGiveAWorld = (s : Sources) → AreProper s → IsSound (world_of s) → IsOfSources (world_of s)
