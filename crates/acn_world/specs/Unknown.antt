-- Modules that aren't there, and references that name nothing, each in the order of the text.
use Rattle.std.specs.Prelude.{ℕ, Bool, not, ◌||◌, List, [], ◌∷◌, ◌++◌, map, Option, Some, None, option_and_then, is_some, flat_map}
use Rattle.std.specs.List.{enumerate_from}
use Rattle.acn_asn_syntax.specs.Mirror.{AsnModule, AsnType, AsnBase, integer, enumerated, Assign}
use Rattle.acn_asn_syntax.specs.declared.types.Item.{Item}
use Rattle.acn_asn_syntax.specs.declared.modules.Import.{Import}
use Rattle.acn_acn_syntax.specs.Mirror.{Entry, Module}
use Rattle.acn_num.specs.Names.{Name}
use Rattle.acn_index.specs.World.{World}
use Rattle.acn_index.specs.Lookup.{module_named, imports_of, found, is_named, type_named, type_in, value_named, table_named}
use Rattle.acn_index.specs.Chains.{written, base_of}
use Rattle.acn_mentions.specs.Mentions.{Mention, to_type, in_constraint, in_default, in_assignment, AcnMention, of_parameter, of_field, to_table, assign_mentions, entry_mentions}
use Rattle.acn_world.specs.Repeated.{is_among, named_names, when}
use Rattle.acn_index.specs.declared.sources.TypeId.{TypeId}
use Rattle.acn_world.specs.declared.fault.NameFault.{NameFault}
use Rattle.acn_world.specs.declared.fault.NameFault.TheVariants as fault

abbrev pub is_no_module : World → Name → Bool
is_no_module w name = not (is_some (module_named w name))

-- ---- modules that aren't there

abbrev pub import_modules : AsnModule → List Name
import_modules m = map (λ (i : Import). i.module) (imports_of m)

abbrev pub missing_of : World → Name → List Name → List NameFault
missing_of w owner names = map (λ (n : Name). fault.NoModule owner n) (flat_map (λ (n : Name). when (is_no_module w n) n) names)

-- an import's module is an ASN.1 module, and an ACN module has the name of one
unfoldable pub missing_modules : World → List NameFault
missing_modules w = flat_map (λ (m : AsnModule). missing_of w m.name (import_modules m)) w.modules ++ flat_map (λ (a : Module). missing_of w a.name (a.name ∷ [])) w.acn

-- ---- names that lead nowhere

-- the names that a type gives to numbers or items (X.680 clauses 19 and 20)
abbrev pub base_names : AsnBase → List Name
base_names (integer ns) = named_names ns
base_names (enumerated items) = map (λ (i : Item). i.name) items
base_names _ = []

-- Those of the base of a type, among which an identifier of its values is looked up first.
unfoldable pub names_of : World → ℕ → AsnType → List Name
names_of w k t = base_names (base_of w (written k t))

abbrev pub governor_names : World → ℕ → Option AsnType → List Name
governor_names w k None = []
governor_names w k (Some t) = names_of w k t

abbrev pub mention_name : Mention → Name
mention_name (to_type from name) = name
mention_name (in_constraint g r name) = name
mention_name (in_default t name) = name
mention_name (in_assignment name) = name

abbrev pub is_value_named : World → ℕ → Name → Bool
is_value_named w k name = is_some (value_named w k name)

-- whether what is mentioned in a module is there
unfoldable pub is_known : World → ℕ → Mention → Bool
is_known w k (to_type from name) = is_some (type_named w k from name)
is_known w k (in_constraint g r name) = is_among name (governor_names w k g) || is_value_named w k name
is_known w k (in_default t name) = is_among name (names_of w k t) || is_value_named w k name
is_known w k (in_assignment name) = is_value_named w k name

-- an imported name is looked up in the module from which it is imported
abbrev pub is_import_known : World → Name → Name → Bool
is_import_known w from name = is_some (option_and_then (found w (is_named name) name) (module_named w from))

abbrev pub import_unknown : World → Import → List Name
import_unknown w i = flat_map (λ (n : Name). when (not (is_import_known w i.module n)) n) i.names

abbrev pub unknown_mentions : World → ℕ → List Mention → List Name
unknown_mentions w k ms = flat_map (λ (m : Mention). when (not (is_known w k m)) (mention_name m)) ms

unfoldable pub unknown_in : World → ℕ → AsnModule → List Name
unknown_in w k m = flat_map (import_unknown w) (imports_of m) ++ flat_map (λ (a : Assign). unknown_mentions w k (assign_mentions a)) m.items

abbrev pub acn_mention_name : AcnMention → Name
acn_mention_name (of_parameter name) = name
acn_mention_name (of_field name) = name
acn_mention_name (to_table name) = name

-- a reference to a type in an ACN module is read in the ASN.1 module of that name
unfoldable pub acn_type_named : World → Name → Name → Option TypeId
acn_type_named w owner name = option_and_then (λ k. type_named w k None name) (module_named w owner)

unfoldable pub is_acn_known : World → Name → AcnMention → Bool
is_acn_known w owner (of_parameter name) = is_some (acn_type_named w owner name)
is_acn_known w owner (of_field name) = is_some (acn_type_named w owner name)
is_acn_known w owner (to_table name) = is_some (table_named w name)

abbrev pub acn_unknown_mentions : World → Name → List AcnMention → List Name
acn_unknown_mentions w owner ms = flat_map (λ (m : AcnMention). when (not (is_acn_known w owner m)) (acn_mention_name m)) ms

-- an entry has the name of a type assignment of its module
abbrev pub entry_unknown : World → Name → Entry → List Name
entry_unknown w owner e = when (not (is_some (type_in w owner e.name))) e.name ++ acn_unknown_mentions w owner (entry_mentions e)

unfoldable pub acn_unknown_in : World → Module → List Name
acn_unknown_in w a = flat_map (entry_unknown w a.name) a.entries

abbrev pub unknown_of : Name → List Name → List NameFault
unknown_of owner names = map (λ (n : Name). fault.Unknown owner n) names

unfoldable pub unknowns : World → List NameFault
unknowns w = flat_map (λ (m : ℕ × AsnModule). unknown_of m.1.name (unknown_in w m.0 m.1)) (enumerate_from 0 w.modules) ++ flat_map (λ (a : Module). unknown_of a.name (acn_unknown_in w a)) w.acn
