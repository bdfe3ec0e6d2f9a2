-- The tokens of modules, and which are proper: ModuleDefinition (X.680, 13.1) and Assignment (X.680, clause 16), as of X.680 (08/2015).
use Rattle.std.specs.Prelude.{◌≡◌, ℕ, Bool, true, ◌&&◌, ◌||◌, List, [], ◌∷◌, ◌++◌, codes}
use Rattle.std.specs.List.{flat_map, list_all}
use Rattle.acn_lex.specs.Words.{is_identifier, is_reference}
use Rattle.acn_asn_syntax.specs.declared.modules.OidPart.{OidPart}
use Rattle.acn_asn_syntax.specs.declared.modules.OidPart.TheVariants as part
use Rattle.acn_asn_syntax.specs.declared.modules.Oid.{Oid}
use Rattle.acn_asn_syntax.specs.declared.modules.Tagging.{Tagging}
use Rattle.acn_asn_syntax.specs.declared.modules.Tagging.TheVariants as tagging
use Rattle.acn_asn_syntax.specs.declared.modules.Exports.{Exports}
use Rattle.acn_asn_syntax.specs.declared.modules.Exports.TheVariants as exports
use Rattle.acn_asn_syntax.specs.declared.modules.Import.{Import}
use Rattle.acn_asn_syntax.specs.declared.modules.AsnModules.{AsnModules}
use Rattle.acn_asn_syntax.specs.Mirror.{Assign, AsnModule, TypeIs, ValueIs}
use Rattle.acn_asn_syntax.specs.Values.{Tokens, word, mark, number, number_fits, value_tokens, value_fits, in_parentheses, in_braces, with_commas, option_tokens, option_fits}
use Rattle.acn_asn_syntax.specs.Spelling.{type_tokens, type_fits, is_some}
use Rattle.acn_asn_syntax.specs.View.{module_view}

-- ---- object identifiers: DefinitiveIdentifier (X.680, 13.1), and AssignedIdentifier in an import

-- The parts of an object identifier: words, numbers, and numbers in parentheses. Here they may stand in any order (this profile's own).
unfoldable pub part_tokens : OidPart → Tokens
part_tokens (part.Word name) = word name ∷ []
part_tokens (part.Number n) = number n ∷ []
part_tokens (part.Grouped n) = in_parentheses (number n ∷ [])

abbrev pub part_fits : OidPart → Bool
part_fits (part.Word name) = true
part_fits (part.Number n) = number_fits n
part_fits (part.Grouped n) = number_fits n

unfoldable pub oid_tokens : Oid → Tokens
oid_tokens o = in_braces (flat_map part_tokens o.parts)

abbrev pub oid_fits : Oid → Bool
oid_fits o = list_all part_fits o.parts

-- ---- what stands before the assignments

-- TagDefault (X.680, 13.1)
unfoldable pub tagging_tokens : Tagging → Tokens
tagging_tokens tagging.Explicit = word (codes "EXPLICIT") ∷ word (codes "TAGS") ∷ []
tagging_tokens tagging.Implicit = word (codes "IMPLICIT") ∷ word (codes "TAGS") ∷ []
tagging_tokens tagging.Automatic = word (codes "AUTOMATIC") ∷ word (codes "TAGS") ∷ []

-- SymbolList: names with commas between them
unfoldable pub names_tokens : List (List ℕ) → Tokens
names_tokens names = with_commas (λ name. word name ∷ []) names

-- Symbol: a name that is exported or imported
abbrev pub is_name : List ℕ → Bool
is_name text = is_reference text || is_identifier text

-- Exports, where it is written (X.680, 13.1)
unfoldable pub exports_tokens : Exports → Tokens
exports_tokens exports.All = word (codes "EXPORTS") ∷ word (codes "ALL") ∷ mark (codes ";") ∷ []
exports_tokens (exports.Some names) = word (codes "EXPORTS") ∷ (names_tokens names ++ mark (codes ";") ∷ [])

abbrev pub exports_fit : Exports → Bool
exports_fit exports.All = true
exports_fit (exports.Some names) = list_all is_name names

-- SymbolsFromModule (X.680, 13.1)
unfoldable pub import_tokens : Import → Tokens
import_tokens i = names_tokens i.names ++ word (codes "FROM") ∷ word i.module ∷ option_tokens oid_tokens i.oid

abbrev pub import_fits : Import → Bool
import_fits i = is_some i.names && list_all is_name i.names && is_reference i.module && option_fits oid_fits i.oid

-- Imports, where it is written (X.680, 13.1)
unfoldable pub imports_tokens : List Import → Tokens
imports_tokens is = word (codes "IMPORTS") ∷ (flat_map import_tokens is ++ mark (codes ";") ∷ [])

-- ---- assignments and modules

-- TypeAssignment and ValueAssignment (X.680, 16.1 and 16.2)
unfoldable pub assign_tokens : Assign → Tokens
assign_tokens (TypeIs name t) = word name ∷ mark (codes "::=") ∷ type_tokens t
assign_tokens (ValueIs name t v) = word name ∷ (type_tokens t ++ mark (codes "::=") ∷ value_tokens v)

abbrev pub assign_fits : Assign → Bool
assign_fits (TypeIs name t) = is_reference name && type_fits t
assign_fits (ValueIs name t v) = is_identifier name && type_fits t && value_fits v

-- what stands before the body of a module: ModuleIdentifier, DEFINITIONS, TagDefault and BEGIN (X.680, 13.1)
unfoldable pub head_tokens : AsnModule → Tokens
head_tokens m = word m.name ∷ (option_tokens oid_tokens m.oid ++ word (codes "DEFINITIONS") ∷ (option_tokens tagging_tokens m.tags ++ mark (codes "::=") ∷ word (codes "BEGIN") ∷ []))

unfoldable pub module_tokens : AsnModule → Tokens
module_tokens m = head_tokens m ++ option_tokens exports_tokens m.exports ++ option_tokens imports_tokens m.imports ++ flat_map assign_tokens m.items ++ word (codes "END") ∷ []

abbrev pub module_fits : AsnModule → Bool
module_fits m = is_reference m.name && option_fits oid_fits m.oid && option_fits exports_fit m.exports && option_fits (list_all import_fits) m.imports && list_all assign_fits m.items

-- the tokens of a tree: modules one after another
abbrev pub tokens_of : AsnModules → Tokens
tokens_of t = flat_map (λ m. module_tokens (module_view m)) t.modules

-- A proper tree: there is a module, lists that the productions want filled are, names are references and identifiers, and numbers are below 2 ^ 64.
abbrev pub IsProper : AsnModules → Type 0
IsProper t = (is_some t.modules ≡ true) × (list_all (λ m. module_fits (module_view m)) t.modules ≡ true)
