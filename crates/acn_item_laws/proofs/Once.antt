-- No type that stands in a sound world gives a name twice in one place.
use Rattle.std.proofs.Common.{◌≡◌, ℕ, zero, suc, List, [], ◌∷◌, ◌++◌, map, Option, Some, None, refl, subst}
use Rattle.std.specs.Prelude.{option_and_then, slice_get}
use Rattle.std.specs.List.{AllByRecursion, flat_map}
use Rattle.acn_asn_syntax.specs.Mirror.{AsnModule, AsnType, type_of, AsnBase, boolean, null, integer, enumerated, octet_string, bit_string, ia5_string, sequence, sequence_of, sequence_size, choice, reference, Constraints, no_constraints, and_constraint, Constraint, by_set, by_size, containing, Components, no_components, and_component, Component, component_list, Alternatives, no_alternatives, and_alternative, Alternative, alternative_list, constraint_list, Assign}
use Rattle.acn_index.specs.Chains.{base_part}
use Rattle.acn_index.specs.World.{World, name_of, place, assignment, type_of_assign}
use Rattle.acn_index.specs.declared.sources.TypeId.{TypeId}
use Rattle.acn_names.specs.Standing.{constraint_parts, base_parts, parts, Stands, assigned, inside}
use Rattle.acn_num.specs.Names.{Name}
use Rattle.acn_world.specs.Faults.{first, early_fault, IsSound}
use Rattle.acn_world.specs.Repeated.{again, repeated, twice, twice_base, twice_components, twice_alternatives, twice_constraints, twice_constraint, imported_names, twice_items, twice_module, repeats_of, asn_repeats, acn_repeats, table_repeats, repeats}
use Rattle.acn_world.specs.Unknown.{missing_modules, unknowns}
use Rattle.acn_world.specs.declared.fault.NameFault.TheVariants as fault
use Rattle.acn_item_laws.proofs.Lists.{append_left, append_right, map_empty, among_all, all_append}

-- ---- the assignments

first_empty : {A : Type 0} (xs ys : List A) → first (xs ++ ys) ≡ None → xs ≡ []
first_empty [] ys h = refl
first_empty (x ∷ xs) ys h = cc

pub no_repeats : (w : World) → IsSound w → repeats w ≡ []
unfolding early_fault
no_repeats w s = first_empty (repeats w) (missing_modules w ++ unknowns w) s.early

pub modules_once : (w : World) → IsSound w → asn_repeats [] w.modules ≡ []
unfolding repeats
modules_once w s = append_left (asn_repeats [] w.modules) (acn_repeats [] w.acn ++ table_repeats w.tables) (no_repeats w s)

module_once : (seen : List Name) (ms : List AsnModule) (k : ℕ) (m : AsnModule) → asn_repeats seen ms ≡ [] → slice_get ms k ≡ Some m → twice_module m ≡ []
unfolding asn_repeats
module_once seen [] k m h e = cc
module_once seen (n ∷ ms) zero m h e =
    let names = again n.name seen ++ twice_module n in
    let one = map_empty (λ (x : Name). fault.Repeated n.name x) names (append_left (repeats_of n.name names) (asn_repeats (seen ++ n.name ∷ []) ms) h) in
    let i : n ≡ m = cc in
    subst (λ (z : AsnModule). twice_module z ≡ []) i (append_right (again n.name seen) (twice_module n) one)
module_once seen (n ∷ ms) (suc k) m h e = module_once (seen ++ n.name ∷ []) ms k m (append_right (repeats_of n.name (again n.name seen ++ twice_module n)) (asn_repeats (seen ++ n.name ∷ []) ms) h) e

items_once : (m : AsnModule) → twice_module m ≡ [] → twice_items (imported_names m) m.items ≡ []
unfolding twice_module
items_once m h = append_right (repeated [] (imported_names m)) (twice_items (imported_names m) m.items) h

item_once : (seen : List Name) (all : List Assign) (i : ℕ) (a : Assign) → twice_items seen all ≡ [] → slice_get all i ≡ Some a → twice (type_of_assign a) ≡ []
unfolding twice_items
item_once seen [] i a h e = cc
item_once seen (b ∷ all) zero a h e =
    let one = append_right (again (name_of b) seen) (twice (type_of_assign b)) (append_left (again (name_of b) seen ++ twice (type_of_assign b)) (twice_items (seen ++ name_of b ∷ []) all) h) in
    let i : b ≡ a = cc in
    subst (λ (z : Assign). twice (type_of_assign z) ≡ []) i one
item_once seen (b ∷ all) (suc i) a h e = item_once (seen ++ name_of b ∷ []) all i a (append_right (again (name_of b) seen ++ twice (type_of_assign b)) (twice_items (seen ++ name_of b ∷ []) all) h) e

assigned_once : (w : World) → IsSound w → (p : TypeId) (a : Assign) → assignment w p ≡ Some a → twice (type_of_assign a) ≡ []
unfolding assignment
assigned_once w s p a e = by (slice_get w.modules p.module) refl e
  where
    by : (o : Option AsnModule) → slice_get w.modules p.module ≡ o → option_and_then (λ (m : AsnModule). slice_get m.items p.item) o ≡ Some a → twice (type_of_assign a) ≡ []
    by None f g = cc
    by (Some m) f g = item_once (imported_names m) m.items p.item a (items_once m (module_once [] w.modules p.module m (modules_once w s) f)) g

-- ---- the types inside a type

abbrev AllOnce : List AsnType → Type 0
AllOnce ts = AllByRecursion (λ (t : AsnType). twice t ≡ []) ts

all_join : (xs ys : List AsnType) → AllOnce xs → AllOnce ys → AllOnce (xs ++ ys)
all_join xs ys h k = all_append (λ (t : AsnType). twice t ≡ []) xs ys h k

constraint_once : (c : Constraint) → twice_constraint c ≡ [] → AllOnce (constraint_parts c)
unfolding twice_constraint
constraint_once (by_set s) h = tt
constraint_once (by_size s) h = tt
constraint_once (containing t) h = (h, tt)

constraints_once : (cs : Constraints) → twice_constraints cs ≡ [] → AllOnce (flat_map constraint_parts (constraint_list cs))
unfolding twice_constraints
constraints_once no_constraints h = tt
constraints_once (and_constraint c more) h =
    all_join (constraint_parts c) (flat_map constraint_parts (constraint_list more)) (constraint_once c (append_left (twice_constraint c) (twice_constraints more) h)) (constraints_once more (append_right (twice_constraint c) (twice_constraints more) h))

components_once : (seen : List Name) (cs : Components) → twice_components seen cs ≡ [] → AllOnce (map (λ (c : Component). c.of) (component_list cs))
unfolding twice_components
components_once seen no_components h = tt
components_once seen (and_component name t r more) h = (
  append_right (again name seen) (twice t) (append_left (again name seen ++ twice t) (twice_components (seen ++ name ∷ []) more) h),
  components_once (seen ++ name ∷ []) more (append_right (again name seen ++ twice t) (twice_components (seen ++ name ∷ []) more) h),
)

alternatives_once : (seen : List Name) (all : Alternatives) → twice_alternatives seen all ≡ [] → AllOnce (map (λ (a : Alternative). a.of) (alternative_list all))
unfolding twice_alternatives
alternatives_once seen no_alternatives h = tt
alternatives_once seen (and_alternative name t more) h = (
  append_right (again name seen) (twice t) (append_left (again name seen ++ twice t) (twice_alternatives (seen ++ name ∷ []) more) h),
  alternatives_once (seen ++ name ∷ []) more (append_right (again name seen ++ twice t) (twice_alternatives (seen ++ name ∷ []) more) h),
)

base_once : (b : AsnBase) → twice_base b ≡ [] → AllOnce (base_parts b)
unfolding twice_base
base_once boolean h = tt
base_once null h = tt
base_once (integer ns) h = tt
base_once (enumerated items) h = tt
base_once octet_string h = tt
base_once bit_string h = tt
base_once ia5_string h = tt
base_once (sequence cs) h = components_once [] cs h
base_once (sequence_of t) h = (h, tt)
base_once (sequence_size c t) h = all_join (constraint_parts c) (t ∷ []) (constraint_once c (append_left (twice_constraint c) (twice t) h)) (append_right (twice_constraint c) (twice t) h, tt)
base_once (choice more) h = alternatives_once [] more h
base_once (reference from name) h = tt

parts_once : (t : AsnType) → twice t ≡ [] → AllOnce (parts t)
unfolding twice
parts_once (type_of tag b cs) h =
    all_join (base_parts b) (flat_map constraint_parts (constraint_list cs)) (base_once b (append_left (twice_base b) (twice_constraints cs) h)) (constraints_once cs (append_right (twice_base b) (twice_constraints cs) h))

pub stands_once : (w : World) (k : ℕ) → IsSound w → {t : AsnType} → Stands w k t → twice t ≡ []
stands_once w k s (assigned i a e) = assigned_once w s (place k i) a e
stands_once w k s (inside {t = t} i h) = among_all (λ (u : AsnType). twice u ≡ []) i (parts_once t (stands_once w k s h))

pub base_repeats_none : (t : AsnType) → twice t ≡ [] → twice_base (base_part t) ≡ []
unfolding twice
base_repeats_none (type_of tag b cs) h = append_left (twice_base b) (twice_constraints cs) h
