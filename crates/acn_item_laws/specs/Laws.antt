-- Where the types at sites stand; the enumerations at the sites of a sound world, and the forms of these sites. (X.680 clauses 19, 20, 25 and 29: names in one place differ.)
use Rattle.std.specs.Prelude.{◌≡◌, ℕ, ◌<◌, ◌^◌, Bool, true, false, List, [], length, None}
use Rattle.std.specs.List.{AllByRecursion}
use Rattle.acn_asn_syntax.specs.Mirror.{AsnType, AsnBase, boolean, null, integer, enumerated}
use Rattle.acn_asn_syntax.specs.declared.types.Item.{Item}
use Rattle.acn_grammar.specs.Grammar.{Grammar}
use Rattle.acn_grammar.specs.Tree.{form_fine}
use Rattle.acn_index.specs.Chains.{base_part}
use Rattle.acn_index.specs.World.{World}
use Rattle.acn_index.specs.declared.sources.TypeId.{TypeId}
use Rattle.acn_leaf_laws.specs.Laws.{HasItems, holds_nodes}
use Rattle.acn_made.specs.Made.{form_at}
use Rattle.acn_made.specs.Named.{Slots}
use Rattle.acn_names.specs.Standing.{Stands}
use Rattle.acn_reasons.specs.Classes.{class_of}
use Rattle.acn_sites.specs.Sites.{Site, Placed, base_of, sites_of}
use Rattle.acn_survey.specs.Reasons.{fault_from}
use Rattle.acn_world.specs.Faults.{IsSound}
use Rattle.acn_world.specs.Repeated.{twice}

-- a base that an inserted field can have by itself
abbrev pub is_own : AsnBase → Bool
is_own boolean = true
is_own null = true
is_own (integer None) = true
is_own _ = false

-- a base that stands in the text of a world, or that an inserted field has by itself
pub data BaseStands (w : World) (b : AsnBase) : Type 0 where
  in_text : (k : ℕ) (t : AsnType) → Stands w k t → base_part t ≡ b → BaseStands w b
  own : is_own b ≡ true → BaseStands w b

-- The type at the end of each site's chain stands there, in any world.
abbrev pub BasesStand : Type 0
BasesStand = (w : World) (of : TypeId) → AllByRecursion (λ (p : Placed). BaseStands w (base_of p.site)) (sites_of w of)

-- no type that stands in a sound world gives a name twice in one place
abbrev pub NoTypeRepeatsAName : Type 0
NoTypeRepeatsAName = (w : World) (k : ℕ) (t : AsnType) → IsSound w → Stands w k t → twice t ≡ []

-- Each enumeration in the text of a world has an item, and fewer than 2^64. The first is a rule of the syntax, the second one of memory.
abbrev pub EnumerationsAreListed : World → Type 0
EnumerationsAreListed w = (k : ℕ) (t : AsnType) (items : List Item) → Stands w k t → base_part t ≡ enumerated items → (0 < length items) × (length items < 2 ^ 64)

-- So at each site of a type of a sound world an enumeration has items that it can have.
abbrev pub SitesHaveItems : Type 0
SitesHaveItems = (w : World) (of : TypeId) → IsSound w → EnumerationsAreListed w → AllByRecursion (λ (p : Placed). HasItems (base_of p.site)) (sites_of w of)

-- the form of a site that is no SEQUENCE and no CHOICE is fine, however the nodes below it are made
abbrev pub HasFineForm : World → Site → Type 0
HasFineForm w s = (all : Slots) (made : Site → Grammar) → holds_nodes (class_of s) ≡ false → form_fine (form_at w all made s (class_of s)) ≡ true

-- and so, where no site of the type has a reason, is the form of each of them
abbrev pub FormsOfSitesAreFine : Type 0
FormsOfSitesAreFine = (w : World) (of : TypeId) → IsSound w → EnumerationsAreListed w → fault_from w 1 (sites_of w of) ≡ None → AllByRecursion (λ (p : Placed). HasFineForm w p.site) (sites_of w of)
