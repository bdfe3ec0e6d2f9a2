-- What `merge` answers where it answers no tree.
use Rattle.std.specs.Prelude.{◌≡◌, IsTrue, is_some}
use Rattle.acn_index.specs.World.{World}
use Rattle.acn_index.specs.declared.sources.TypeId.{TypeId}
use Rattle.acn_merge.specs.declared.fault.MergeFault.{MergeFault}
use Rattle.acn_merge.specs.declared.fault.MergeFault.TheVariants as fault
use Rattle.acn_merge.specs.Merged.{reason_against}
use Rattle.acn_survey.specs.View.{fault_of_site}
use Rattle.acn_survey.specs.declared.reason.MergeFault as survey
use Rattle.acn_survey.specs.declared.reason.MergeFault.TheVariants as told

-- The first reason of the first site that has one. Want of memory is free.
abbrev pub Tells : World → TypeId → MergeFault → Type 0
Tells w of (fault.At f) = IsTrue (is_some (reason_against w of)) × (fault_of_site f ≡ reason_against w of)
Tells w of fault.NoMemory = Unit {0}

-- a refusal of the sites, handed on
abbrev pub handed_on : survey.MergeFault → MergeFault
handed_on (told.At f) = fault.At f
handed_on told.NoMemory = fault.NoMemory
