-- Something is wrong with words exactly where they have no form.
use Rattle.std.proofs.Common.{◌≡◌, ℕ, suc, Bool, true, false, not, ◌&&◌, ◌||◌, nat_le, List, [], ◌∷◌, length, map, take, drop, Option, Some, None, is_some, option_map, if◌then◌else◌, refl, codes}
use Rattle.std.specs.List.{list_all, list_any}
use Rattle.std.specs.Str.{bytes_eq}
use Rattle.acn_lex.specs.Number.{number_in}
use Rattle.acn_words.specs.Faults.{Fault, type_word, no_modules, too_many_files, stranger, unless_modules, files_fault, type_fault, types_fault, unless, work_fault, fault_in, repeated, unless_repeated, routes_fault, route_word}
use Rattle.acn_words.specs.Faults as fault
use Rattle.acn_words.specs.Files.{is_file, has_modules, are_files}
use Rattle.acn_words.specs.Names.{TypeName, named, is_type}
use Rattle.acn_words.specs.Requests.{Request, with_files, with_type, with_types, count_in, made, with_work, with_routes, request_in}
use Rattle.acn_words.specs.Requests as request
use Rattle.acn_words.specs.Routes.{is_route, route_of, apid_of, has_apid, apids_differ, count_routes}
use Rattle.acn_words.specs.declared.files.TheConstants.{MOST_FILES}

one_stops : (b all : Bool) (name : List ℕ) (behind : Option (List ℕ)) → is_some behind ≡ not all → is_some (if b then behind else Some name) ≡ not (b && all)
one_stops true all name behind h = h
one_stops false all name behind h = refl

stops : (names : List (List ℕ)) → is_some (stranger names) ≡ not (list_all is_file names)
stops [] = refl
stops (name ∷ names) = one_stops (is_file name) (list_all is_file names) name (stranger names) (stops names)

of_modules : (m : Bool) → is_some (if m then None else Some no_modules) ≡ not m
of_modules true = refl
of_modules false = refl

of_strangers : (names : List (List ℕ)) (found : Option (List ℕ)) → is_some (unless_modules names found) ≡ (is_some found || not (list_any has_modules names))
of_strangers names (Some name) = refl
of_strangers names None = of_modules (list_any has_modules names)

of_many : (b : Bool) (behind : Option Fault) → is_some (if b then behind else Some too_many_files) ≡ (not b || is_some behind)
of_many true behind = refl
of_many false behind = refl

three : (b all m : Bool) → (not b || (not all || not m)) ≡ not (b && (all && m))
three true true m = refl
three true false m = refl
three false all m = refl

files_told : (names : List (List ℕ)) → is_some (files_fault names) ≡ not (are_files names)
files_told [] = refl
files_told (name ∷ names) =
    let all = name ∷ names in
    rw (of_many (nat_le (length all) MOST_FILES) (unless_modules all (stranger all)), of_strangers all (stranger all), stops all) (three (nat_le (length all) MOST_FILES) (list_all is_file all) (list_any has_modules all))

of_files : (f : Bool) (behind : Option Fault) (asked : Request) → is_some behind ≡ not f → is_some behind ≡ not (is_some (if f then Some asked else None))
of_files true behind asked h = h
of_files false behind asked h = h

with_files_told : (asks : List (List ℕ) → Request) (names : List (List ℕ)) → is_some (files_fault names) ≡ not (is_some (with_files asks names))
with_files_told asks names = of_files (are_files names) (files_fault names) (asks names) (files_told names)

of_type : (asks : TypeName → List (List ℕ) → Request) (b f : Bool) (of : List ℕ) (names : List (List ℕ)) → is_some (files_fault names) ≡ not f
    → is_some (if b then files_fault names else Some (type_word of)) ≡ not (is_some (option_map (λ (p : TypeName × List (List ℕ)). asks p.0 p.1) (if b && f then Some (named of, names) else None)))
of_type asks true true of names h = h
of_type asks true false of names h = h
of_type asks false f of names h = refl

with_type_told : (asks : TypeName → List (List ℕ) → Request) (rest : List (List ℕ)) → is_some (type_fault rest) ≡ not (is_some (with_type asks rest))
with_type_told asks [] = refl
with_type_told asks (of ∷ names) = of_type asks (is_type of) (are_files names) of names (files_told names)

of_types : (b : Bool) (of : List ℕ) (behind : Option Fault) (asked : Option Request) → is_some behind ≡ not (is_some asked) → is_some (if b then behind else Some (type_word of)) ≡ not (is_some (if b then asked else None))
of_types true of behind asked h = h
of_types false of behind asked h = refl

with_types_told : (rest : List (List ℕ)) → is_some (types_fault rest) ≡ not (is_some (with_types rest))
with_types_told [] = refl
with_types_told (of ∷ words) =
    let asks : TypeName → List (List ℕ) → Request = λ newer names. request.compare (named of) newer names in
    of_types (is_type of) of (type_fault words) (with_type asks words) (with_type_told asks words)

always : (b : Bool) (one other : Fault) → is_some (if b then Some one else Some other) ≡ true
always true one other = refl
always false one other = refl

always_two : (b : Bool) (o : Option ℕ) (one second other : Fault) → is_some (if b then unless one o (Some second) else Some other) ≡ true
always_two true (Some n) one second other = refl
always_two true None one second other = refl
always_two false o one second other = refl

of_work : (of first second : List ℕ) (names : List (List ℕ)) (b f : Bool) (o n : Option ℕ) → is_some (files_fault names) ≡ not f
    → is_some (if b then unless (fault.start first) o (unless (fault.count second) n (files_fault names)) else Some (type_word of)) ≡ not (is_some (if b && f then made (named of) o n names else None))
of_work of first second names true true (Some s) (Some n) h = h
of_work of first second names true false (Some s) (Some n) h = h
of_work of first second names true true (Some s) None h = refl
of_work of first second names true false (Some s) None h = refl
of_work of first second names true true None n h = refl
of_work of first second names true false None n h = refl
of_work of first second names false f o n h = refl

work_told : (rest : List (List ℕ)) → is_some (work_fault rest) ≡ not (is_some (with_work rest))
work_told [] = refl
work_told (of ∷ []) = always (is_type of) fault.no_start (type_word of)
work_told (of ∷ first ∷ []) = always_two (is_type of) (number_in first) (fault.start first) fault.no_count (type_word of)
work_told (of ∷ first ∷ second ∷ names) = of_work of first second names (is_type of) (are_files names) (number_in first) (count_in second) (files_told names)

differ_or : (b d : Bool) (word : List ℕ) (behind : Option (List ℕ)) → is_some behind ≡ not d → is_some (if b then Some word else behind) ≡ not (not b && d)
differ_or true d word behind h = refl
differ_or false d word behind h = h

repeats : (words : List (List ℕ)) → is_some (repeated words) ≡ not (apids_differ words)
repeats [] = refl
repeats (word ∷ words) = differ_or (has_apid (apid_of word) words) (apids_differ words) word (repeated words) (repeats words)

both_true : (a b : Bool) → a ≡ true → b ≡ true → (a && b) ≡ true
both_true a b p q = rw (p, q) refl

fronts_by : (b : Bool) (word : List ℕ) (words : List (List ℕ)) → is_route word ≡ b → list_all is_route (take (count_routes words) words) ≡ true → list_all is_route (take (if b then suc (count_routes words) else 0) (word ∷ words)) ≡ true
fronts_by true word words h rest = both_true (is_route word) (list_all is_route (take (count_routes words) words)) h rest
fronts_by false word words h rest = refl

fronts : (words : List (List ℕ)) → list_all is_route (take (count_routes words) words) ≡ true
fronts [] = refl
fronts (word ∷ words) = fronts_by (is_route word) word words refl (fronts words)

of_routes : (o : Option (List ℕ)) (d f : Bool) (names : List (List ℕ)) (asked : Request) → is_some o ≡ not d → is_some (files_fault names) ≡ not f
    → is_some (unless_repeated o names) ≡ not (is_some (if d && f then Some asked else None))
of_routes (Some word) true f names asked h k = cc
of_routes (Some word) false f names asked h k = refl
of_routes None true true names asked h k = k
of_routes None true false names asked h k = k
of_routes None false f names asked h k = cc

of_front : (one all : Bool) (front names : List (List ℕ)) (asked : Request) → one ≡ true → all ≡ true
    → is_some (unless_repeated (repeated front) names) ≡ not (is_some (if ((one && all) && apids_differ front) && are_files names then Some asked else None))
of_front one all front names asked p q = rw (p, q) (of_routes (repeated front) (apids_differ front) (are_files names) names asked (repeats front) (files_told names))

first_told : (b : Bool) (word : List ℕ) (words : List (List ℕ)) → is_route word ≡ b
    → is_some (if b then unless_repeated (repeated (take (if b then suc (count_routes words) else 0) (word ∷ words))) (drop (if b then suc (count_routes words) else 0) (word ∷ words)) else Some (route_word word))
    ≡ not (is_some (request.routed (take (if b then suc (count_routes words) else 0) (word ∷ words)) (drop (if b then suc (count_routes words) else 0) (word ∷ words))))
first_told true word words h =
    let front = word ∷ take (count_routes words) words in
    let names = drop (count_routes words) words in
    of_front (is_route word) (list_all is_route (take (count_routes words) words)) front names (request.route (map route_of front) names) h (fronts words)
first_told false word words h = refl

routes_told : (rest : List (List ℕ)) → is_some (routes_fault rest) ≡ not (is_some (with_routes rest))
routes_told [] = refl
routes_told (word ∷ words) = first_told (is_route word) word words refl

pick : (b : Bool) (x y : Option Fault) (u v : Option Request) → is_some x ≡ not (is_some u) → is_some y ≡ not (is_some v) → is_some (if b then x else y) ≡ not (is_some (if b then u else v))
pick true x y u v h k = h
pick false x y u v h k = k

pub told : (words : List (List ℕ)) → is_some (fault_in words) ≡ not (is_some (request_in words))
told [] = refl
told (name ∷ rest) =
    pick (bytes_eq name (codes "check")) _ _ _ _ (with_files_told request.check rest)
    (pick (bytes_eq name (codes "bounds")) _ _ _ _ (with_files_told request.bounds rest)
    (pick (bytes_eq name (codes "layout")) _ _ _ _ (with_type_told request.layout rest)
    (pick (bytes_eq name (codes "encode")) _ _ _ _ (with_type_told request.encode rest)
    (pick (bytes_eq name (codes "decode")) _ _ _ _ (with_type_told request.decode rest)
    (pick (bytes_eq name (codes "compare")) _ _ _ _ (with_types_told rest)
    (pick (bytes_eq name (codes "extremes")) _ _ _ _ (with_type_told request.extremes rest)
    (pick (bytes_eq name (codes "route")) _ _ _ _ (routes_told rest)
    (pick (bytes_eq name (codes "explain")) _ _ _ _ (with_type_told request.explain rest)
    (pick (bytes_eq name (codes "work")) _ _ _ _ (work_told rest) refl)))))))))
