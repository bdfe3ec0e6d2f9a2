-- What is wrong with words that have no form: the first of the command, TYPE, APID=TYPE, START, COUNT and the FILEs that isn't as it has to be. (This program's own.)
use Rattle.std.specs.Prelude.{ℕ, nat_le, List, [], ◌∷◌, length, take, drop, Option, Some, None, if◌then◌else◌, codes}
use Rattle.std.specs.List.{list_any}
use Rattle.std.specs.Str.{bytes_eq}
use Rattle.acn_lex.specs.Number.{number_in}
use Rattle.acn_words.specs.Files.{is_file, has_modules}
use Rattle.acn_words.specs.Names.{is_type}
use Rattle.acn_words.specs.Requests.{count_in}
use Rattle.acn_words.specs.Routes.{is_route, apid_of, has_apid, count_routes}
use Rattle.acn_words.specs.declared.files.TheConstants.{MOST_FILES}

pub data Fault : Type 0 where
  no_command : Fault
  -- this word is no command
  command : (word : List ℕ) → Fault
  no_type : Fault
  -- this word is no TYPE
  type_word : (word : List ℕ) → Fault
  no_route : Fault
  -- this word stands where the first APID=TYPE has to, and is none
  route_word : (word : List ℕ) → Fault
  -- the application process of this word is that of one behind it too
  route_twice : (word : List ℕ) → Fault
  no_start : Fault
  start : (word : List ℕ) → Fault
  no_count : Fault
  count : (word : List ℕ) → Fault
  no_file : Fault
  too_many_files : Fault
  -- this word is no FILE
  file : (word : List ℕ) → Fault
  -- no FILE has modules of ASN.1
  no_modules : Fault

-- the first word that is no FILE
abbrev pub stranger : List (List ℕ) → Option (List ℕ)
stranger [] = None
stranger (name ∷ names) = if is_file name then stranger names else Some name

abbrev pub unless_modules : List (List ℕ) → Option (List ℕ) → Option Fault
unless_modules names (Some name) = Some (file name)
unless_modules names None = if list_any has_modules names then None else Some no_modules

abbrev pub few_files_fault : List (List ℕ) → Option Fault
few_files_fault names = if nat_le (length names) MOST_FILES then unless_modules names (stranger names) else Some too_many_files

-- FILE..
abbrev pub files_fault : List (List ℕ) → Option Fault
files_fault [] = Some no_file
files_fault (name ∷ names) = few_files_fault (name ∷ names)

-- TYPE FILE..
abbrev pub type_fault : List (List ℕ) → Option Fault
type_fault [] = Some no_type
type_fault (of ∷ names) = if is_type of then files_fault names else Some (type_word of)

-- OLD NEW FILE..
abbrev pub types_fault : List (List ℕ) → Option Fault
types_fault [] = Some no_type
types_fault (of ∷ words) = if is_type of then type_fault words else Some (type_word of)

-- the first route whose application process comes again
abbrev pub repeated : List (List ℕ) → Option (List ℕ)
repeated [] = None
repeated (word ∷ words) = if has_apid (apid_of word) words then Some word else repeated words

abbrev pub unless_repeated : Option (List ℕ) → (names : List (List ℕ)) → Option Fault
unless_repeated (Some word) names = Some (route_twice word)
unless_repeated None names = files_fault names

-- APID=TYPE .. FILE..
abbrev pub routes_fault : List (List ℕ) → Option Fault
routes_fault [] = Some no_route
routes_fault (word ∷ words) =
    if is_route word then unless_repeated (repeated (take (count_routes (word ∷ words)) (word ∷ words))) (drop (count_routes (word ∷ words)) (word ∷ words)) else Some (route_word word)

-- what is wrong here, where there is no number, else behind it
abbrev pub unless : Fault → Option ℕ → Option Fault → Option Fault
unless here (Some n) behind = behind
unless here None behind = Some here

-- COUNT FILE..
abbrev pub count_fault : List (List ℕ) → Option Fault
count_fault [] = Some no_count
count_fault (word ∷ names) = unless (count word) (count_in word) (files_fault names)

-- START COUNT FILE..
abbrev pub start_fault : List (List ℕ) → Option Fault
start_fault [] = Some no_start
start_fault (word ∷ rest) = unless (start word) (number_in word) (count_fault rest)

-- TYPE START COUNT FILE..
abbrev pub work_fault : List (List ℕ) → Option Fault
work_fault [] = Some no_type
work_fault (of ∷ rest) = if is_type of then start_fault rest else Some (type_word of)

abbrev pub fault_behind : (command : List ℕ) → List (List ℕ) → Option Fault
fault_behind name rest =
    if bytes_eq name (codes "check") then files_fault rest
    else (if bytes_eq name (codes "bounds") then files_fault rest
    else (if bytes_eq name (codes "layout") then type_fault rest
    else (if bytes_eq name (codes "encode") then type_fault rest
    else (if bytes_eq name (codes "decode") then type_fault rest
    else (if bytes_eq name (codes "compare") then types_fault rest
    else (if bytes_eq name (codes "extremes") then type_fault rest
    else (if bytes_eq name (codes "route") then routes_fault rest
    else (if bytes_eq name (codes "explain") then type_fault rest
    else (if bytes_eq name (codes "work") then work_fault rest else Some (command name))))))))))

-- what is wrong with the words, where something is
abbrev pub fault_in : List (List ℕ) → Option Fault
fault_in [] = Some no_command
fault_in (name ∷ rest) = fault_behind name rest
