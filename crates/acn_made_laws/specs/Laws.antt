-- The nodes that are made of the sites of a type. (This profile's own.)
use Rattle.std.specs.Prelude.{◌≡◌, ◌+◌, Bool, ℕ, nat_lt, nat_le, true, false, List, [], length, map, Option, Some, None}
use Rattle.std.specs.List.{AllByRecursion, AllZip}
use Rattle.acn_grammar.specs.Grammar.{Grammar, Form}
use Rattle.acn_grammar.specs.Grammar as grammar
use Rattle.acn_grammar.specs.Asks.{same_name}
use Rattle.acn_grammar.specs.Leaves.{all_differ}
use Rattle.acn_grammar.specs.Tree.{choice_rule_fine, form_fine, role_fine, is_tree}
use Rattle.acn_grammar.specs.Walk.{Stand, nodes_of, conditions_of}
use Rattle.acn_grammar.specs.declared.limits.TheConstants.{MOST_NODES}
use Rattle.acn_acn_syntax.specs.Mirror as acn
use Rattle.acn_asn_syntax.specs.Mirror.{AsnBase, component_list, alternative_list, sequence, choice}
use Rattle.acn_num.specs.Names.{Name}
use Rattle.acn_reasons.specs.Braced.{component_names, alternative_names}
use Rattle.acn_slots.specs.Slots.{name_in_text}
use Rattle.acn_home_laws.specs.Laws.{paths}
use Rattle.acn_home_laws.specs.Numbered.{IsNumbered}
use Rattle.acn_home_laws.specs.Rules.{slots_fine}
use Rattle.acn_homes.specs.Homes.{slots}
use Rattle.acn_index.specs.World.{World}
use Rattle.acn_index.specs.declared.sources.TypeId.{TypeId}
use Rattle.acn_made.specs.Made.{made}
use Rattle.acn_made.specs.Named.{Slots}
use Rattle.acn_made_laws.specs.Standing.{StandsFor}
use Rattle.acn_num.specs.declared.limits.TheConstants.{MOST_STEPS}
use Rattle.acn_sites.specs.Sites.{Site, Placed, base_of, below, root_site, sites_of}
use Rattle.acn_survey.specs.Reasons.{reason_at, fault_from}
use Rattle.acn_survey.specs.Walk.{is_inserted, inserted_fields, uses_of}
use Rattle.acn_world.specs.Cycles.{fits_field}

-- of a type without a reason against it
abbrev pub WithoutReason : World → TypeId → Site → Type 0
WithoutReason w of s = (root_site w of ≡ Some s) × (fault_from w 1 (sites_of w of) ≡ None)

-- The nodes of the tree in preorder stand for the sites in preorder, whatever the slots.
abbrev pub NodesStandForSites : Type 0
NodesStandForSites = (w : World) (of : TypeId) (s : Site) → WithoutReason w of s → (all : Slots)
    → AllZip (λ (at : Stand) (p : Placed). StandsFor w all at p.site) (nodes_of (made (MOST_STEPS + 1) w all s)) (sites_of w of)

-- Their paths are those of the sites.
abbrev pub NodesStandAtSites : Type 0
NodesStandAtSites = (w : World) (of : TypeId) (s : Site) → WithoutReason w of s → (all : Slots)
    → paths (nodes_of (made (MOST_STEPS + 1) w all s)) ≡ map (λ (p : Placed). p.site.path) (sites_of w of)

-- the tree that is made of the sites, with the slots that they note
abbrev pub root_of_type : World → TypeId → Site → Grammar
root_of_type w of s = made (MOST_STEPS + 1) w (slots (inserted_fields (sites_of w of)) (uses_of w (sites_of w of))) s

-- Its slots are numbered by the paths that the sites note.
abbrev pub MadeSlotsAreNumbered : Type 0
MadeSlotsAreNumbered = (w : World) (of : TypeId) (s : Site) → WithoutReason w of s → IsNumbered (root_of_type w of s) (inserted_fields (sites_of w of)) (uses_of w (sites_of w of))

-- So all rules of a tree on slots and homes hold.
abbrev pub MadeSlotRulesHold : Type 0
MadeSlotRulesHold = (w : World) (of : TypeId) (s : Site) → WithoutReason w of s → slots_fine (nodes_of (root_of_type w of s)) ≡ true

-- ---- what else a tree owes to the walk over its sites

-- No reason holds at any site.
abbrev pub SitesHaveNoReason : Type 0
SitesHaveNoReason = (w : World) (of : TypeId) (s : Site) → WithoutReason w of s → AllByRecursion (λ (p : Placed). (number : ℕ) × (reason_at w number p.site ≡ None)) (sites_of w of)

-- No path is too long, and there are not too many nodes.
abbrev pub MadeTreeIsWithinLimits : Type 0
MadeTreeIsWithinLimits = (w : World) (of : TypeId) (s : Site) → WithoutReason w of s
    → (nat_le (length (nodes_of (root_of_type w of s))) MOST_NODES ≡ true) × AllByRecursion (λ (at : Stand). nat_le (length at.path) MOST_STEPS ≡ true) (nodes_of (root_of_type w of s))

-- Inserted fields have numbers or are NULL, as it is where no name is at fault.
abbrev pub InsertedFieldsFit : World → TypeId → Type 0
InsertedFieldsFit w of = AllByRecursion (λ (p : Placed). is_inserted p.site.position ≡ true → fits_field (base_of p.site) ≡ true) (sites_of w of)

-- Then a component or an inserted field with a slot is a number that is always there, and an inserted field without one is a NULL.
abbrev pub MadeRolesAreFine : Type 0
MadeRolesAreFine = (w : World) (of : TypeId) (s : Site) → WithoutReason w of s → InsertedFieldsFit w of → AllByRecursion (λ (at : Stand). role_fine at.role at.form ≡ true) (nodes_of (root_of_type w of s))

-- the rule of a CHOICE is the one for its alternatives
abbrev pub is_ruled : Form → Bool
is_ruled (grammar.choice cases rule) = choice_rule_fine (conditions_of cases) rule
is_ruled _ = true

-- Each CHOICE has the rule for its alternatives.
abbrev pub MadeChoicesAreRuled : Type 0
MadeChoicesAreRuled = (w : World) (of : TypeId) (s : Site) → WithoutReason w of s → AllByRecursion (λ (at : Stand). is_ruled at.form ≡ true) (nodes_of (root_of_type w of s))

-- The names of what is inside a type, in the order of the packet: those between its braces, and else those of its components; or those of its alternatives.
abbrev pub names_inside : AsnBase → Option (List acn.Field) → List Name
names_inside (sequence cs) None = component_names (component_list cs)
names_inside (sequence cs) (Some fs) = map name_in_text fs
names_inside (choice more) braces = alternative_names (alternative_list more)
names_inside _ braces = []

-- a CHOICE has an alternative
abbrev pub has_some : AsnBase → Bool
has_some (choice more) = nat_lt 0 (length (alternative_list more))
has_some _ = true

-- Names in one place differ, as it is where no name is at fault, and no CHOICE is empty, as its syntax has it (X.680 clauses 25 and 29).
abbrev pub NamesInsideDiffer : World → TypeId → Type 0
NamesInsideDiffer w of = AllByRecursion (λ (p : Placed). (all_differ same_name (names_inside (base_of p.site) (below w p.site).braces) ≡ true) × (has_some (base_of p.site) ≡ true)) (sites_of w of)

-- a form whose rules speak of the nodes inside: a SEQUENCE or a CHOICE
abbrev pub is_outer : Form → Bool
is_outer (grammar.seq fs home) = true
is_outer (grammar.choice cases rule) = true
is_outer _ = false

-- Then the form of each SEQUENCE and CHOICE is fine.
abbrev pub MadeOuterFormsAreFine : Type 0
MadeOuterFormsAreFine = (w : World) (of : TypeId) (s : Site) → WithoutReason w of s → NamesInsideDiffer w of → AllByRecursion (λ (at : Stand). is_outer at.form ≡ true → form_fine at.form ≡ true) (nodes_of (root_of_type w of s))

-- So a made tree is well formed where the forms of its nodes are fine.
abbrev pub MadeTreeIsFineWhereItsFormsAre : Type 0
MadeTreeIsFineWhereItsFormsAre = (w : World) (of : TypeId) (s : Site) → WithoutReason w of s → InsertedFieldsFit w of
    → AllByRecursion (λ (at : Stand). form_fine at.form ≡ true) (nodes_of (root_of_type w of s)) → is_tree (root_of_type w of s) ≡ true

-- And where names differ, it is well formed where its leaves, lists and contents are fine.
abbrev pub MadeTreeIsFineWhereItsLeavesAre : Type 0
MadeTreeIsFineWhereItsLeavesAre = (w : World) (of : TypeId) (s : Site) → WithoutReason w of s → InsertedFieldsFit w of → NamesInsideDiffer w of
    → AllByRecursion (λ (at : Stand). is_outer at.form ≡ false → form_fine at.form ≡ true) (nodes_of (root_of_type w of s)) → is_tree (root_of_type w of s) ≡ true
