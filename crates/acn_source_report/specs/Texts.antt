-- The lines of refused files, names and types, one line a case. (This program's own.)
use Rattle.std.specs.Prelude.{ℕ, List, [], ◌∷◌, ◌++◌, codes, take, drop}
use Rattle.std.specs.Fmt.{decimal}
use Rattle.std.specs.List.{concat}
use Rattle.acn_sources.specs.declared.fault.FileFault.{FileFault}
use Rattle.acn_sources.specs.declared.fault.FileFault.TheVariants as file
use Rattle.acn_survey.specs.declared.reason.Refused.{Refused}
use Rattle.acn_world.specs.declared.fault.NameFault.{NameFault}
use Rattle.acn_world.specs.declared.fault.NameFault.TheVariants as names
use Rattle.acn_source_report.specs.Files.{line_number}
use Rattle.acn_source_report.specs.Words.{reason_words}

abbrev pub no_memory_line : List ℕ
no_memory_line = codes "acn: out of memory\n"

-- ---- files

abbrev pub unreadable_line : (name : List ℕ) → List ℕ
unreadable_line name = concat (codes "acn: cannot read " ∷ name ∷ codes "\n" ∷ [])

abbrev pub long_file_line : (name : List ℕ) → List ℕ
long_file_line name = concat (codes "acn: " ∷ name ∷ codes ": FileTooLong\n" ∷ [])

-- a file is refused in the line of this place
abbrev pub file_line_with : (name bytes : List ℕ) → (at : ℕ) → (words : List ℕ) → List ℕ
file_line_with name bytes at words = concat (codes "acn: " ∷ name ∷ codes ":" ∷ decimal (line_number bytes at) ∷ codes ": " ∷ words ∷ codes "\n" ∷ [])

-- a word or mark that is left out is shown
abbrev pub left_out_words : (bytes : List ℕ) → (at length : ℕ) → List ℕ
left_out_words bytes at length = codes "LeftOut " ++ take length (drop at bytes)

abbrev pub file_line : (name bytes : List ℕ) → FileFault → List ℕ
file_line name bytes (file.BadByte at) = file_line_with name bytes at (codes "BadByte")
file_line name bytes (file.Unclosed at) = file_line_with name bytes at (codes "Unclosed")
file_line name bytes (file.TooManyTokens at) = file_line_with name bytes at (codes "TooManyTokens")
file_line name bytes (file.TooWide at) = file_line_with name bytes at (codes "TooWide")
file_line name bytes (file.LeftOut at length) = file_line_with name bytes at (left_out_words bytes at length)
file_line name bytes (file.TooDeep at) = file_line_with name bytes at (codes "TooDeep")
file_line name bytes (file.Syntax at) = file_line_with name bytes at (codes "Syntax")
file_line name bytes file.NoMemory = no_memory_line

-- ---- names

-- a name is refused in a module
abbrev pub name_line_with : (word owner name : List ℕ) → List ℕ
name_line_with word owner name = concat (codes "acn: names: " ∷ word ∷ codes " " ∷ owner ∷ codes "." ∷ name ∷ codes "\n" ∷ [])

abbrev pub no_module_line : (name : List ℕ) → List ℕ
no_module_line name = concat (codes "acn: names: NoModule " ∷ name ∷ codes "\n" ∷ [])

-- The way of a Cycle isn't printed. Of a module that isn't there the name stands alone.
abbrev pub name_line : NameFault → List ℕ
name_line (names.Unknown owner name) = name_line_with (codes "Unknown") owner name
name_line (names.Repeated owner name) = name_line_with (codes "Repeated") owner name
name_line (names.NoModule owner name) = no_module_line name
name_line (names.Cycle owner name way) = name_line_with (codes "Cycle") owner name
name_line (names.WrongKind owner name) = name_line_with (codes "WrongKind") owner name
name_line names.NoMemory = no_memory_line

-- ---- types

-- a type can't be made, at this place of it
abbrev pub place_text : (place : List ℕ) → List ℕ
place_text place = concat (codes "acn: " ∷ place ∷ codes ": " ∷ [])

abbrev pub refused_line : Refused → List ℕ
refused_line r = place_text r.place ++ (reason_words r.reason ++ codes "\n")
