-- Names that are given twice in one place, in the order of the text (X.680 clauses 13, 19, 20, 25 and 29;
-- of ACN modules and tables this profile's own). A name stands once among the modules of one kind, the imports and
-- assignments of a module, the entries of an ACN module, the parameters of an entry, the tables, and the names inside
-- one pair of braces.
use Rattle.std.specs.Prelude.{Bool, true, false, List, [], ◌∷◌, ◌++◌, map, Option, Some, None, flat_map}
use Rattle.std.specs.List.{list_any}
use Rattle.std.specs.Str.{bytes_eq}
use Rattle.acn_asn_syntax.specs.Mirror.{AsnModule, AsnType, type_of, AsnBase, integer, enumerated, sequence, sequence_of, sequence_size, choice, Constraints, no_constraints, and_constraint, Constraint, containing, Components, no_components, and_component, Alternatives, no_alternatives, and_alternative, Assign}
use Rattle.acn_asn_syntax.specs.declared.types.Named.{Named}
use Rattle.acn_asn_syntax.specs.declared.types.Item.{Item}
use Rattle.acn_asn_syntax.specs.declared.modules.Import.{Import}
use Rattle.acn_acn_syntax.specs.Mirror.{Field, plain, inserted, number, Braces, no_braces, braces, Fields, no_fields, and_field, Entry, Module}
use Rattle.acn_acn_syntax.specs.declared.modules.Param.{Param}
use Rattle.acn_acn_syntax.specs.declared.maps.MapTable.{MapTable}
use Rattle.acn_num.specs.Names.{Name}
use Rattle.acn_index.specs.World.{World, name_of, type_of_assign}
use Rattle.acn_index.specs.Lookup.{imports_of}
use Rattle.acn_world.specs.declared.fault.NameFault.{NameFault}
use Rattle.acn_world.specs.declared.fault.NameFault.TheVariants as fault

abbrev pub is_among : Name → List Name → Bool
is_among name names = list_any (bytes_eq name) names

abbrev pub when : Bool → Name → List Name
when true name = name ∷ []
when false name = []

-- the name itself, where it is among those before it
abbrev pub again : Name → List Name → List Name
again name seen = when (is_among name seen) name

-- the names that repeat one before them
unfoldable pub repeated : List Name → List Name → List Name
repeated seen [] = []
repeated seen (name ∷ more) = again name seen ++ repeated (seen ++ name ∷ []) more

-- ---- inside types

abbrev pub named_names : Option (List Named) → List Name
named_names None = []
named_names (Some ns) = map (λ n. n.name) ns

unfoldable mutual
  pub twice : AsnType → List Name
  twice (type_of tag b cs) = twice_base b ++ twice_constraints cs

  pub twice_base : AsnBase → List Name
  twice_base (integer ns) = repeated [] (named_names ns)
  twice_base (enumerated items) = repeated [] (map (λ (i : Item). i.name) items)
  twice_base (sequence cs) = twice_components [] cs
  twice_base (sequence_of t) = twice t
  twice_base (sequence_size c t) = twice_constraint c ++ twice t
  twice_base (choice more) = twice_alternatives [] more
  twice_base _ = []

  pub twice_components : List Name → Components → List Name
  twice_components seen no_components = []
  twice_components seen (and_component name t r more) = (again name seen ++ twice t) ++ twice_components (seen ++ name ∷ []) more

  pub twice_alternatives : List Name → Alternatives → List Name
  twice_alternatives seen no_alternatives = []
  twice_alternatives seen (and_alternative name t more) = (again name seen ++ twice t) ++ twice_alternatives (seen ++ name ∷ []) more

  pub twice_constraints : Constraints → List Name
  twice_constraints no_constraints = []
  twice_constraints (and_constraint c more) = twice_constraint c ++ twice_constraints more

  pub twice_constraint : Constraint → List Name
  twice_constraint (containing t) = twice t
  twice_constraint _ = []

-- what is given twice between SEQUENCE and OF
abbrev pub twice_between : Option Constraint → List Name
twice_between None = []
twice_between (Some c) = twice_constraint c

-- ---- in ASN.1 modules

abbrev pub imported_names : AsnModule → List Name
imported_names m = flat_map (λ (i : Import). i.names) (imports_of m)

unfoldable pub twice_items : List Name → List Assign → List Name
twice_items seen [] = []
twice_items seen (a ∷ more) = (again (name_of a) seen ++ twice (type_of_assign a)) ++ twice_items (seen ++ name_of a ∷ []) more

unfoldable pub twice_module : AsnModule → List Name
twice_module m = repeated [] (imported_names m) ++ twice_items (imported_names m) m.items

abbrev pub repeats_of : Name → List Name → List NameFault
repeats_of owner names = map (λ (n : Name). fault.Repeated owner n) names

unfoldable pub asn_repeats : List Name → List AsnModule → List NameFault
asn_repeats seen [] = []
asn_repeats seen (m ∷ more) = repeats_of m.name (again m.name seen ++ twice_module m) ++ asn_repeats (seen ++ m.name ∷ []) more

-- ---- in ACN modules

abbrev pub field_name : Field → Name
field_name (plain name arguments attributes bs) = name
field_name (inserted name kind attributes) = name
field_name (number name n) = name

unfoldable mutual
  pub twice_field : Field → List Name
  twice_field (plain name arguments attributes bs) = twice_braces bs
  twice_field _ = []

  pub twice_braces : Braces → List Name
  twice_braces no_braces = []
  twice_braces (braces fs) = twice_fields [] fs

  pub twice_fields : List Name → Fields → List Name
  twice_fields seen no_fields = []
  twice_fields seen (and_field f more) = (again (field_name f) seen ++ twice_field f) ++ twice_fields (seen ++ field_name f ∷ []) more

unfoldable pub twice_entry : Entry → List Name
twice_entry e = repeated [] (map (λ (p : Param). p.name) e.parameters) ++ twice_braces e.fields

unfoldable pub twice_entries : List Name → List Entry → List Name
twice_entries seen [] = []
twice_entries seen (e ∷ more) = (again e.name seen ++ twice_entry e) ++ twice_entries (seen ++ e.name ∷ []) more

unfoldable pub acn_repeats : List Name → List Module → List NameFault
acn_repeats seen [] = []
acn_repeats seen (m ∷ more) = repeats_of m.name (again m.name seen ++ twice_entries [] m.entries) ++ acn_repeats (seen ++ m.name ∷ []) more

-- ---- tables, and all of them

abbrev pub table_repeats : List MapTable → List NameFault
table_repeats tables = map (λ (n : Name). fault.Repeated n n) (repeated [] (map (λ (t : MapTable). t.name) tables))

unfoldable pub repeats : World → List NameFault
repeats w = asn_repeats [] w.modules ++ (acn_repeats [] w.acn ++ table_repeats w.tables)
