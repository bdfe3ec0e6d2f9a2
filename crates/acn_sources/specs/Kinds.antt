-- The trees and faults of each kind of file.
use Rattle.std.specs.Prelude.{ℕ, List, []}
use Rattle.acn_asn_syntax.specs.declared.modules.AsnModules.{AsnModules}
use Rattle.acn_asn_syntax.specs.Modules as asn
use Rattle.acn_asn_parse.specs.Modules as asn_productions
use Rattle.acn_asn_parse.specs.Whole as asn_words
use Rattle.acn_acn_syntax.specs.declared.modules.AcnModules.{AcnModules}
use Rattle.acn_acn_syntax.specs.declared.maps.MapTables.{MapTables}
use Rattle.acn_acn_syntax.specs.ModuleTokens.{acn_tokens, IsProperAcn}
use Rattle.acn_acn_syntax.specs.MapTokens as maps
use Rattle.acn_acn_parse.specs.FieldReading.{left_out_tokens, modules_in_file}
use Rattle.acn_acn_parse.specs.MapReading.{tables}
use Rattle.acn_cursor.specs.Exact.{stops_at}
use Rattle.acn_sources.specs.Reading.{Grammar, IsTree, IsFault}
use Rattle.acn_sources.specs.declared.fault.FileFault.{FileFault}

abbrev pub asn_grammar : Grammar AsnModules
asn_grammar = record { tokens_of = asn.tokens_of; IsProper = asn.IsProper; left_out = asn_words.left_out; stops_at = stops_at asn_productions.modules_at }

abbrev pub acn_grammar : Grammar AcnModules
acn_grammar = record { tokens_of = acn_tokens; IsProper = IsProperAcn; left_out = left_out_tokens; stops_at = stops_at modules_in_file }

abbrev pub map_grammar : Grammar MapTables
map_grammar = record { tokens_of = maps.tokens_of; IsProper = maps.IsProper; left_out = []; stops_at = stops_at tables }

abbrev pub IsAsn : List ℕ → AsnModules → Type 0
IsAsn = IsTree asn_grammar

abbrev pub IsAsnFault : List ℕ → FileFault → Type 0
IsAsnFault = IsFault asn_grammar

abbrev pub IsAcn : List ℕ → AcnModules → Type 0
IsAcn = IsTree acn_grammar

abbrev pub IsAcnFault : List ℕ → FileFault → Type 0
IsAcnFault = IsFault acn_grammar

abbrev pub IsMap : List ℕ → MapTables → Type 0
IsMap = IsTree map_grammar

abbrev pub IsMapFault : List ℕ → FileFault → Type 0
IsMapFault = IsFault map_grammar
