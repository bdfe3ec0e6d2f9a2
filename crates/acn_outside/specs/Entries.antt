-- Files in memory, by name.
use Rattle.std.specs.Prelude.{ℕ, List, Bool, ◌&&◌, ◌||◌, Option, option_map, is_none, find, bytes_eq}
use Rattle.std.specs.Option.{option_map_or}
use Rattle.acn_outside.specs.declared.entry.Entry.{Entry}

-- the entry is of the file with this name
abbrev pub has_name : List ℕ → Entry → Bool
has_name name entry = bytes_eq entry.name name

-- the bytes of the file with this name
abbrev pub contents_of : List Entry → List ℕ → Option (List ℕ)
contents_of entries name = option_map (λ entry. entry.bytes.items) (find (has_name name) entries)

-- the count of the file with this name, or that of all names that weren't added
abbrev pub faults_of : List Entry → ℕ → List ℕ → ℕ
faults_of entries others name = option_map_or (λ entry. entry.faults) (find (has_name name) entries) others

-- no file has this name
abbrev pub is_absent : List Entry → List ℕ → Bool
is_absent entries name = is_none (contents_of entries name)

-- the two names have one count: they are one name, or no file has either
abbrev pub share_count : List Entry → List ℕ → List ℕ → Bool
share_count entries a b = bytes_eq a b || (is_absent entries a && is_absent entries b)
