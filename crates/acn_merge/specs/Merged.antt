-- The tree that a type of the sources is made into. (How types, attributes and paths are joined is this profile's own.)
use Rattle.std.specs.Prelude.{ℕ, ◌+◌, List, Option, option_map}
use Rattle.acn_grammar.specs.Grammar.{Grammar}
use Rattle.acn_homes.specs.Homes.{slots}
use Rattle.acn_index.specs.World.{World}
use Rattle.acn_index.specs.declared.sources.TypeId.{TypeId}
use Rattle.acn_made.specs.Made.{made}
use Rattle.acn_made.specs.Named.{Slots}
use Rattle.acn_num.specs.declared.limits.TheConstants.{MOST_STEPS}
use Rattle.acn_sites.specs.Sites.{Site, Placed, sites_of, root_site, root_position, mark}
use Rattle.acn_survey.specs.Reasons.{Fault, fault_from}
use Rattle.acn_survey.specs.Walk.{inserted_fields, uses_of}

-- the first reason why there is no tree
abbrev pub reason_against : World → TypeId → Option Fault
reason_against w of = fault_from w 1 (sites_of w of)

-- the slots of these sites: those of their inserted fields, and of the fields that they use
abbrev pub slots_of : World → List Placed → Slots
slots_of w all = slots (inserted_fields all) (uses_of w all)

abbrev pub root_made : World → List Placed → Site → Grammar
root_made w all s = made (MOST_STEPS + 1) w (slots_of w all) s

-- the root of the tree: the node of the root site
abbrev pub merged : World → TypeId → Option Grammar
merged w of = option_map (root_made w (sites_of w of)) (root_site w of)

-- the name of the tree: those of the type's module and of the type, with a full stop between them
abbrev pub full_name : World → TypeId → List ℕ
full_name w of = mark (root_position w of)
