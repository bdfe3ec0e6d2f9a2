-- The components that are there, noted by their names in byte order.
use Rattle.std.specs.Prelude.{ℕ, ◌<◌, List, [], ◌∷◌, Option, Some, None, option_map, option_and_then, unwrap_or}
use Rattle.std.specs.Borrow.{Bor}
use Rattle.std.specs.List.{slice_get}
use Rattle.serde_json.specs.Data.{Members, no_members, member, put}
use Rattle.serde_json.specs.Data as json
use Rattle.acn_grammar.specs.Grammar as data_words
use Rattle.acn_grammar.specs.View.{OneField, a_component, an_inserted, field_of, data_of}
use Rattle.acn_grammar.specs.declared.node.Field.{Field}
use Rattle.acn_grammar.specs.declared.value.Value.{Value}
use Rattle.acn_json.specs.Lines.{json_of}
use Rattle.acn_json.specs.declared.spots.Spot.{Spot}

-- the JSON of a component that is there
abbrev pub place_json : OneField → Option data_words.Data → json.Data
place_json (a_component name g presence default own) (Some d) = json_of g d
place_json (a_component name g presence default own) None = json.null
place_json (an_inserted name g slot) d = json.null

-- that of the component where a spot leads
abbrev pub json_at : List Field → List (Option Value) → Spot → json.Data
json_at fs ps s = unwrap_or (option_and_then (λ f. option_map (λ p. place_json (field_of f) (option_map data_of p)) (slice_get ps s.place)) (slice_get fs s.field)) json.null

-- spots with their names
abbrev pub Spots : Type 0
Spots = List (Bor (List ℕ) × Spot)

-- the members that spots stand for
abbrev pub members_at : (Spot → json.Data) → Spots → Members
members_at value [] = no_members
members_at value (e ∷ es) = member e.0.now (value e.1) (members_at value es)

-- one member more, where its component is there
abbrev pub put_there : Option Value → List ℕ → json.Data → Members → Members
put_there None k j ms = ms
put_there (Some v) k j ms = put k j ms

-- each leads to one of so many fields and places
abbrev pub AreWithin : (fields places : ℕ) → Spots → Type 0
AreWithin m n [] = Unit {0}
AreWithin m n (e ∷ es) = (e.1.field < m) × (e.1.place < n) × AreWithin m n es
