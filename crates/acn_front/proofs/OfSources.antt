-- The world of the sources of files is one that proper sources give.
use Rattle.std.proofs.Common.{◌≡◌, List, sym, subst}
use Rattle.acn_index.specs.World.{World, world_of}
use Rattle.acn_index.specs.declared.sources.Sources.{Sources}
use Rattle.acn_source_laws.specs.Laws.{ProperSourcesGiveAWorld, SourcesOfFilesAreProper}
use Rattle.acn_sources.specs.Files.{AreSources}
use Rattle.acn_sources.specs.declared.sources.File.{File}
use Rattle.acn_tree_laws.specs.Laws.{IsOfSources}
use Rattle.acn_world.specs.Faults.{IsSound}

pub world_of_sources : (files : List File) (s : Sources) (w : World) → SourcesOfFilesAreProper → ProperSourcesGiveAWorld → AreSources files s → w ≡ world_of s → IsSound (world_of s) → IsOfSources w
world_of_sources files s w proper law are same sound = subst IsOfSources (sym same) (law s (proper files s are) sound)
