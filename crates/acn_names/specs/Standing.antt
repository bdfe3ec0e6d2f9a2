-- The types that stand in the text of a module.
use Rattle.std.specs.Prelude.{◌≡◌, ℕ, List, [], ◌∷◌, ◌++◌, map, flat_map, Some}
use Rattle.acn_asn_syntax.specs.Mirror.{AsnType, type_of, AsnBase, sequence, sequence_of, sequence_size, choice, Constraint, containing, Component, Alternative, Assign, component_list, alternative_list, constraint_list}
use Rattle.acn_index.specs.World.{World, place, assignment, type_of_assign}
use Rattle.acn_graph.specs.Graph.{Among}

-- a contained type
abbrev pub constraint_parts : Constraint → List AsnType
constraint_parts (containing t) = t ∷ []
constraint_parts _ = []

abbrev pub base_parts : AsnBase → List AsnType
base_parts (sequence cs) = map (λ (c : Component). c.of) (component_list cs)
base_parts (sequence_of t) = t ∷ []
base_parts (sequence_size c t) = constraint_parts c ++ t ∷ []
base_parts (choice more) = map (λ (a : Alternative). a.of) (alternative_list more)
base_parts _ = []

-- the types inside a type, one level below it: those of components and alternatives, of elements, and contained ones
abbrev pub parts : AsnType → List AsnType
parts (type_of tag b cs) = base_parts b ++ flat_map constraint_parts (constraint_list cs)

-- A type stands in the text of the module with a number where it is the type of an assignment there, or inside a type that
-- stands there.
pub data Stands (w : World) (k : ℕ) : AsnType → Type 0 where
  assigned : (i : ℕ) (a : Assign) → assignment w (place k i) ≡ Some a → Stands w k (type_of_assign a)
  inside : {t u : AsnType} → Among u (parts t) → Stands w k t → Stands w k u
