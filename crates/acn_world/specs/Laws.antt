-- Laws about the faults of names, the places of entries and the chains of assigned types.
use Rattle.acn_index.specs.World.{World}
use Rattle.acn_graph.specs.Graph.{Among}
use Rattle.acn_world.specs.Cycles.{targets, HasNoCycle}
use Rattle.acn_world.specs.Faults.{IsFault, IsSound}
use Rattle.acn_index.specs.declared.sources.TypeId.{TypeId}
use Rattle.acn_world.specs.declared.fault.NameFault.{NameFault}
use Rattle.std.specs.Prelude.{◌≡◌, ℕ, ◌<◌, ◌++◌, Option, Some, option_and_then, option_to_list}
use Rattle.acn_index.specs.Lookup.{EntryAt, entry_at, entry_place, entry_in_place, placed_entry}
use Rattle.acn_index.specs.Chains.{Link, ChainOf, written, assigned_link, chain_of}

-- a world with a fault isn't sound
abbrev pub NoFaultInASoundWorld : Type 0
NoFaultInASoundWorld = (w : World) (f : NameFault) → IsFault w f → IsSound w → ⊥

-- where each assignment can be given a rank above those to which it refers, none reaches itself
abbrev pub NoCycleAmongRanks : Type 0
NoCycleAmongRanks = (w : World) (rank : TypeId → ℕ) → ((p q : TypeId) → Among q (targets w p) → rank q < rank p) → HasNoCycle w

-- at the place of an assignment's entry stands that entry
abbrev pub EntriesStandAtTheirPlaces : Type 0
EntriesStandAtTheirPlaces = (w : World) (p : TypeId) → option_and_then (entry_in_place w) (entry_place w p) ≡ entry_at w p

-- a chain with one entry more, where there is one, behind the others
abbrev pub with_entry : ChainOf → Option EntryAt → ChainOf
with_entry c e = record { base = c.base; owner = c.owner; constraints = c.constraints; entries = c.entries ++ option_to_list e }

-- The chain of an assigned type is that of its type as it stands in the text, with the assignment's own entry behind the others.
abbrev pub AssignedChainsHaveTheirOwnEntry : Type 0
AssignedChainsHaveTheirOwnEntry = (w : World) (p : TypeId) (l : Link) → assigned_link w p ≡ Some l → chain_of w l ≡ with_entry (chain_of w (written l.owner l.of)) (placed_entry w p)
