-- What is noted of the sites of a type: the fields that determine something by their kind, and which site uses which field. These
-- rules are this profile's own.
use Rattle.std.specs.Prelude.{ℕ, Bool, true, false, ◌&&◌, List, [], ◌∷◌, if◌then◌else◌, map, flat_map, filter_map, Option, Some, None, is_some}
use Rattle.acn_num.specs.Names.{Name}
use Rattle.acn_homes.specs.declared.uses.Use.{Use}
use Rattle.acn_index.specs.World.{World}
use Rattle.acn_slots.specs.declared.slots.Lead.{Lead}
use Rattle.acn_slots.specs.declared.slots.Lead.TheVariants as lead
use Rattle.acn_slots.specs.Slots.{Scope, sort_of, leads}
use Rattle.acn_sites.specs.Attributes.{Given, nearest, scope_of}
use Rattle.acn_sites.specs.Sites.{Position, root, part, inserted, alternative, element, content, Site, Placed}
use Rattle.acn_reasons.specs.Paths.{paths_in, kinds_with_paths}

abbrev pub is_inserted : Position → Bool
is_inserted (root owner name) = false
is_inserted (part name rest) = false
is_inserted (inserted name kind) = true
is_inserted (alternative name) = false
is_inserted element = false
is_inserted content = false

-- an inserted field other than NULL
abbrev pub has_number : Site → Bool
has_number s = is_inserted s.position && is_some (sort_of s.chain)

abbrev pub field_at : Site → List (List ℕ)
field_at s = if has_number s then s.path ∷ [] else []

-- the paths of all such fields, in preorder
unfoldable pub inserted_fields : List Placed → List (List ℕ)
inserted_fields ps = flat_map (λ (p : Placed). field_at p.site) ps

-- the path of the field to which a path of ACN leads
abbrev pub field_path : Lead → Option (List ℕ)
field_path (lead.Slot x) = Some x.path
field_path lead.Nowhere = None
field_path (lead.Absent through x) = None

abbrev pub named_field : World → Scope → List Name → Option (List ℕ)
named_field w c names = field_path (leads w c names)

abbrev pub fields_named : World → Site → Option Given → List (List ℕ)
fields_named w s None = []
fields_named w s (Some g) = filter_map (named_field w (scope_of w s g)) (paths_in g.attr)

-- the fields that the `size`, `present-when` and `determinant` of a site name
abbrev pub fields_used : World → Site → List (List ℕ)
fields_used w s = flat_map (λ k. fields_named w s (nearest k s)) kinds_with_paths

abbrev pub uses_at : World → Site → List Use
uses_at w s = map (λ f. record { user = s.path; field = f }) (fields_used w s)

-- all uses, in preorder of the sites
unfoldable pub uses_of : World → List Placed → List Use
uses_of w ps = flat_map (λ (p : Placed). uses_at w p.site) ps
