mod Accepted
mod Answering
-- for packing in place
pub mod AskHomes
mod AskRows
mod BoundsLaw
mod ChoiceRows
-- for acn_events and acn_leads
pub mod Codes
mod ConditionRows
mod ContentRows
mod Contents
mod CountedTotal
mod CutRows
mod EachWritten
mod EndRows
mod EndedExclusion
mod EndedListFails
mod EndedLists
mod EndedTextTotal
mod EndedTotal
mod Envs
mod Exclusion
mod ExclusionLaws
mod FailurePaths
mod FineNodes
mod FirstFaults
mod FirstUnmets
mod FlagRows
mod HasCode
mod Homes
mod InputTotal
mod InsideReaches
mod Items
mod LaterStarts
mod LeadFails
mod Leads
mod LeafExclusion
mod LeafLaws
mod LeafReaches
mod LeafRows
mod LeafTotal
mod LeastAnswers
mod LengthLaw
mod Lengths
mod ListRows
mod Moves
mod NodeExclusion
mod NodeLaws
mod NodeParts
mod NodePaths
mod NodeTotal
mod NumberRows
mod NumberTotal
-- for packing in place
pub mod Occurrences
mod OnPaths
mod OneFault
mod OneRefusals
-- for packing in place
pub mod OneWriting
mod Overlaps
mod PartPaths
mod NamedSlots
mod PathSlots
mod PlaceRows
-- for acn_event_limits and acn_check
pub mod Placed
mod PrefixNodes
mod Reaches
-- for acn_reads and acn_plain_write
pub mod ReadParts
mod RefusalPaths
mod RefusedUnspelled
mod RequestRows
mod Rows
mod Scoping
mod ShortLeaves
mod ShortNear
mod SizeRows
mod SlotLeaves
mod SlotNumbers
mod SoundLaid
mod SoundLaws
mod SoundNodes
mod SoundRows
mod SoundSlots
mod Sounding
mod SpelledMeets
mod TelemetryRows
mod TextLaws
mod TextReaches
mod TextRows
mod TextTotal
mod Trees
mod Tuples
mod Unbreached
mod UseKinds
mod Used
mod ValueLengths
mod WidthBack
mod Widths
mod WorkedRows
mod WrittenNodes
mod WrittenParts
mod WrittenRead
