-- The chain of a type: the types to which it refers, one after another, from the outermost to the base.
use Rattle.std.specs.Prelude.{ℕ, zero, suc, Bool, true, false, List, [], ◌∷◌, map, reverse, Option, Some, None, option_and_then, option_map, flat_map, filter_map}
use Rattle.std.specs.List.{list_any}
use Rattle.acn_asn_syntax.specs.Mirror.{AsnBase, AsnType, Constraint, type_of, constraint_list, reference}
use Rattle.acn_num.specs.Names.{Name}
use Rattle.acn_index.specs.World.{World, type_at, count}
use Rattle.acn_index.specs.Lookup.{type_named, EntryAt, placed_entry}
use Rattle.acn_index.specs.declared.sources.TypeId.{TypeId}

abbrev pub base_part : AsnType → AsnBase
base_part (type_of tag b cs) = b

abbrev pub constraints_part : AsnType → List Constraint
constraints_part (type_of tag b cs) = constraint_list cs

-- a type as it stands on a chain: the module in whose text it stands, and the assignment that it is the type of
pub record Link : Type 0 where
  pub owner : ℕ
  pub of : AsnType
  pub assigned : Option TypeId

-- a type as it stands in a module's text
abbrev pub written : ℕ → AsnType → Link
written k t = record { owner = k; of = t; assigned = None }

abbrev pub base_reference : AsnBase → Option (Option Name × Name)
base_reference (reference from name) = Some (from, name)
base_reference _ = None

-- the reference that a type is, where it is one
abbrev pub reference_of : AsnType → Option (Option Name × Name)
reference_of t = base_reference (base_part t)

abbrev pub assigned_link : World → TypeId → Option Link
assigned_link w p = option_map (λ t. record { owner = p.module; of = t; assigned = Some p }) (type_at w p)

-- the link to which a type refers
unfoldable pub next_link : World → Link → Option Link
next_link w l = option_and_then (λ (r : Option Name × Name). option_and_then (assigned_link w) (type_named w l.owner r.0 r.1)) (reference_of l.of)

abbrev pub more_links : (Link → List Link) → Option Link → List Link
more_links next None = []
more_links next (Some l) = next l

-- at most so many links
unfoldable pub links_within : ℕ → World → Link → List Link
links_within zero w l = []
links_within (suc n) w l = l ∷ more_links (links_within n w) (next_link w l)

-- A chain by more references than there are assignments would come back to one of them.
unfoldable pub links : World → Link → List Link
links w l = links_within (suc (count w)) w l

-- ---- what a chain gives

abbrev pub last_link : Link → List Link → Link
last_link l [] = l
last_link l (next ∷ more) = last_link next more

-- behind at most so many references
abbrev pub last_within : ℕ → World → Link → Link
last_within n w l = last_link l (links_within (suc n) w l)

unfoldable pub base_link : World → Link → Link
base_link w l = last_link l (links w l)

-- the type behind all references
unfoldable pub base_of : World → Link → AsnBase
base_of w l = base_part (base_link w l).of

abbrev pub link_constraints : Link → List (ℕ × Constraint)
link_constraints l = map (λ c. (l.owner, c)) (constraints_part l.of)

abbrev pub link_entry : World → Link → Option EntryAt
link_entry w l = option_and_then (placed_entry w) l.assigned

-- Both lists from the base outward, each constraint with the number of its module. The entry of a type is the one of the
-- assignment that it is the type of; a type that only stands in a text has none of its own.
pub record ChainOf : Type 0 where
  pub base : AsnType
  pub owner : ℕ
  pub constraints : List (ℕ × Constraint)
  pub entries : List EntryAt

abbrev pub chain_of_links : World → Link → List Link → ChainOf
chain_of_links w l ls = record { base = (last_link l ls).of; owner = (last_link l ls).owner; constraints = flat_map link_constraints (reverse ls); entries = filter_map (link_entry w) (reverse ls) }

unfoldable pub chain_of : World → Link → ChainOf
chain_of w l = chain_of_links w l (links w l)

-- ---- parameters

abbrev pub has_items : {A : Type 0} → List A → Bool
has_items [] = false
has_items (x ∷ xs) = true

abbrev pub gives_parameters : EntryAt → Bool
gives_parameters e = has_items e.is.parameters

-- a type has parameters where an entry along its chain has them
unfoldable pub has_parameters : World → Link → Bool
has_parameters w l = list_any gives_parameters (filter_map (link_entry w) (links w l))
