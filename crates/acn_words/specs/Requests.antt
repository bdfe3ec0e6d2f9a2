-- What the words of a command ask for. (This program's own.)
use Rattle.std.specs.Prelude.{ℕ, Bool, true, false, ◌&&◌, nat_le, List, [], ◌∷◌, map, take, drop, Option, Some, None, option_and_then, option_map, if◌then◌else◌, codes}
use Rattle.std.specs.Str.{bytes_eq}
use Rattle.acn_lex.specs.Number.{number_in}
use Rattle.acn_words.specs.Files.{are_files}
use Rattle.acn_words.specs.Names.{TypeName, named, is_type}
use Rattle.acn_words.specs.Routes.{Route, route_of, count_routes, are_routes}
use Rattle.acn_words.specs.declared.requests.TheConstants.{MOST_MADE}

pub data Request : Type 0 where
  check : (files : List (List ℕ)) → Request
  bounds : (files : List (List ℕ)) → Request
  layout : (of : TypeName) → (files : List (List ℕ)) → Request
  encode : (of : TypeName) → (files : List (List ℕ)) → Request
  decode : (of : TypeName) → (files : List (List ℕ)) → Request
  compare : (old new : TypeName) → (files : List (List ℕ)) → Request
  extremes : (of : TypeName) → (files : List (List ℕ)) → Request
  route : (routes : List Route) → (files : List (List ℕ)) → Request
  explain : (of : TypeName) → (files : List (List ℕ)) → Request
  work : (of : TypeName) → (start count : ℕ) → (files : List (List ℕ)) → Request

abbrev pub with_files : (List (List ℕ) → Request) → List (List ℕ) → Option Request
with_files asks names = if are_files names then Some (asks names) else None

-- TYPE FILE..
abbrev pub type_and_files : List (List ℕ) → Option (TypeName × List (List ℕ))
type_and_files [] = None
type_and_files (of ∷ names) = if is_type of && are_files names then Some (named of, names) else None

abbrev pub with_type : (TypeName → List (List ℕ) → Request) → List (List ℕ) → Option Request
with_type asks words = option_map (λ p. asks p.0 p.1) (type_and_files words)

-- OLD NEW FILE..
abbrev pub with_types : List (List ℕ) → Option Request
with_types [] = None
with_types (old ∷ words) = if is_type old then option_map (λ p. compare (named old) p.0 p.1) (type_and_files words) else None

abbrev pub routed : (fronts names : List (List ℕ)) → Option Request
routed fronts names = if are_routes fronts && are_files names then Some (route (map route_of fronts) names) else None

-- APID=TYPE .. FILE..
abbrev pub with_routes : List (List ℕ) → Option Request
with_routes words = routed (take (count_routes words) words) (drop (count_routes words) words)

-- how many values are made: 1 to the most
abbrev pub is_count : ℕ → Bool
is_count n = nat_le 1 n && nat_le n MOST_MADE

abbrev pub counted : ℕ → Option ℕ
counted n = if is_count n then Some n else None

abbrev pub count_in : List ℕ → Option ℕ
count_in word = option_and_then counted (number_in word)

abbrev pub made : TypeName → (start count : Option ℕ) → List (List ℕ) → Option Request
made of (Some start) (Some count) names = Some (work of start count names)
made of (Some start) None names = None
made of None count names = None

-- TYPE START COUNT FILE..
abbrev pub work_with : (of start count : List ℕ) → List (List ℕ) → Option Request
work_with of start count names = if is_type of && are_files names then made (named of) (number_in start) (count_in count) names else None

abbrev pub with_work : List (List ℕ) → Option Request
with_work (of ∷ start ∷ count ∷ names) = work_with of start count names
with_work _ = None

abbrev pub by_command : (command : List ℕ) → List (List ℕ) → Option Request
by_command command rest =
    if bytes_eq command (codes "check") then with_files check rest
    else (if bytes_eq command (codes "bounds") then with_files bounds rest
    else (if bytes_eq command (codes "layout") then with_type layout rest
    else (if bytes_eq command (codes "encode") then with_type encode rest
    else (if bytes_eq command (codes "decode") then with_type decode rest
    else (if bytes_eq command (codes "compare") then with_types rest
    else (if bytes_eq command (codes "extremes") then with_type extremes rest
    else (if bytes_eq command (codes "route") then with_routes rest
    else (if bytes_eq command (codes "explain") then with_type explain rest
    else (if bytes_eq command (codes "work") then with_work rest else None)))))))))

-- what these words ask for, where they have a form
abbrev pub request_in : List (List ℕ) → Option Request
request_in [] = None
request_in (command ∷ rest) = by_command command rest

-- the FILEs of a request
abbrev pub files_of : Request → List (List ℕ)
files_of (check names) = names
files_of (bounds names) = names
files_of (layout of names) = names
files_of (encode of names) = names
files_of (decode of names) = names
files_of (compare old new names) = names
files_of (extremes of names) = names
files_of (route routes names) = names
files_of (explain of names) = names
files_of (work of start count names) = names

-- the types that a request names, in the order of the words, where it names some
abbrev pub types_of : Request → Option (List TypeName)
types_of (check names) = None
types_of (bounds names) = None
types_of (layout of names) = Some (of ∷ [])
types_of (encode of names) = Some (of ∷ [])
types_of (decode of names) = Some (of ∷ [])
types_of (compare old new names) = Some (old ∷ new ∷ [])
types_of (extremes of names) = Some (of ∷ [])
types_of (route routes names) = Some (map (λ r. r.of) routes)
types_of (explain of names) = Some (of ∷ [])
types_of (work of start count names) = Some (of ∷ [])

-- whether it reads packets of one type, or what becomes such packets
abbrev pub reads_input : Request → Bool
reads_input (encode of names) = true
reads_input (decode of names) = true
reads_input (explain of names) = true
reads_input _ = false

-- whether it asks for the shortest and the longest packet
abbrev pub asks_extremes : Request → Bool
asks_extremes (extremes of names) = true
asks_extremes _ = false

-- whether a number of values that are made is one
abbrev pub has_count : Request → Bool
has_count (work of start count names) = is_count count
has_count _ = true
