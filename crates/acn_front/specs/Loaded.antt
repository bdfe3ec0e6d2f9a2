-- What the sources of some files say, or why they say nothing. (X.680 and this profile's rules on files and names.)
use Rattle.std.specs.Prelude.{◌≡◌, List}
use Rattle.acn_index.specs.World.{World, world_of}
use Rattle.acn_index.specs.declared.sources.Sources.{Sources}
use Rattle.acn_sources.specs.Files.{AreSources, IsFirstFault}
use Rattle.acn_sources.specs.declared.sources.File.{File}
use Rattle.acn_world.specs.Faults.{IsSound, IsFault}
use Rattle.acn_sources.specs.declared.fault.FileFault.{FileFault}
use Rattle.acn_sources.specs.declared.fault.FileFault.TheVariants as file_faults
use Rattle.acn_sources.specs.declared.fault.SourcesFault.{SourcesFault}
use Rattle.acn_world.specs.declared.fault.NameFault.{NameFault}
use Rattle.acn_world.specs.declared.fault.NameFault.TheVariants as name_faults
use Rattle.acn_front.specs.declared.loading.LoadFault.{LoadFault}
use Rattle.acn_front.specs.declared.loading.LoadFault.TheVariants as fault

-- each file has a tree, and each name leads where it should
pub record IsWorldOf (files : List File) (w : World) : Type 0 where
  pub sources : Sources
  pub trees : AreSources files sources
  pub same : w ≡ world_of sources
  pub sound : IsSound w

-- The first fault of the first file that has no tree, or else the first of a name.
abbrev pub IsLoadFault : List File → LoadFault → Type 0
IsLoadFault files (fault.File e) = IsFirstFault files e
IsLoadFault files (fault.Name f) = (s : Sources) × AreSources files s × IsFault (world_of s) f
IsLoadFault files fault.NoMemory = Unit {0}

-- a refusal of the files, handed on
abbrev pub file_told : SourcesFault → FileFault → LoadFault
file_told e file_faults.NoMemory = fault.NoMemory
file_told e _ = fault.File e

-- a refusal of the names, handed on
abbrev pub name_told : NameFault → LoadFault
name_told name_faults.NoMemory = fault.NoMemory
name_told f = fault.Name f
