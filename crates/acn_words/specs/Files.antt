-- FILEs: words that end as the names of sources do. (This program's own.)
use Rattle.std.specs.Prelude.{ℕ, Bool, true, false, ◌&&◌, nat_le, List, length, Option, Some, None, is_some}
use Rattle.std.specs.List.{list_all, list_any}
use Rattle.acn_sources.specs.Names.{kind_of_name}
use Rattle.acn_sources.specs.declared.kind.FileKind.{FileKind}
use Rattle.acn_sources.specs.declared.kind.FileKind.TheVariants.{Asn, Acn, Map}
use Rattle.acn_words.specs.declared.files.TheConstants.{MOST_FILES}

abbrev pub is_file : List ℕ → Bool
is_file name = is_some (kind_of_name name)

abbrev pub is_module_kind : Option FileKind → Bool
is_module_kind (Some Asn) = true
is_module_kind (Some Acn) = false
is_module_kind (Some Map) = false
is_module_kind None = false

-- a file with modules of ASN.1
abbrev pub has_modules : List ℕ → Bool
has_modules name = is_module_kind (kind_of_name name)

-- not too many, each a source, and one of them with modules of ASN.1
abbrev pub are_files : List (List ℕ) → Bool
are_files names = nat_le (length names) MOST_FILES && (list_all is_file names && list_any has_modules names)
