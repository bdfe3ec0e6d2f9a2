-- APID=TYPE: the application process that packets are of, and their type. (CCSDS 133.0-B-2, 4.1.3.3.4.4: eleven bits; the form of the word is this program's own.)
use Rattle.std.specs.Prelude.{ℕ, suc, Bool, true, false, not, ◌&&◌, ◌||◌, ◌==◌, ◌+◌, nat_eq, nat_le, List, [], ◌∷◌, take, drop, Option, Some, None, is_some, option_and_then, unwrap_or, if◌then◌else◌}
use Rattle.std.specs.List.{list_all}
use Rattle.acn_lex.specs.Number.{number_in}
use Rattle.acn_words.specs.Names.{TypeName, named, is_type}
use Rattle.acn_words.specs.declared.routes.TheConstants.{MOST_APID}

pub record Route : Type 0 where
  pub apid : ℕ
  pub of : TypeName

-- the place of the first equals sign, or the end
abbrev pub sign_at : List ℕ → ℕ
sign_at [] = 0
sign_at (b ∷ bs) = if b == 61 then 0 else sign_at bs + 1

abbrev pub apid_before : List ℕ → List ℕ
apid_before word = take (sign_at word) word

abbrev pub type_behind : List ℕ → List ℕ
type_behind word = drop (sign_at word + 1) word

abbrev pub few : ℕ → Option ℕ
few n = if nat_le n MOST_APID then Some n else None

-- the number before the equals sign, where it is that of an application process
abbrev pub apid_in : List ℕ → Option ℕ
apid_in word = option_and_then few (number_in (apid_before word))

abbrev pub is_route : List ℕ → Bool
is_route word = is_some (apid_in word) && is_type (type_behind word)

abbrev pub apid_of : List ℕ → ℕ
apid_of word = unwrap_or (apid_in word) 0

abbrev pub route_of : List ℕ → Route
route_of word = record { apid = apid_of word; of = named (type_behind word) }

-- how many words in front are routes
abbrev pub count_routes : List (List ℕ) → ℕ
count_routes [] = 0
count_routes (word ∷ words) = if is_route word then suc (count_routes words) else 0

abbrev pub has_apid : ℕ → List (List ℕ) → Bool
has_apid apid [] = false
has_apid apid (word ∷ words) = nat_eq (apid_of word) apid || has_apid apid words

-- no two routes are of one application process
abbrev pub apids_differ : List (List ℕ) → Bool
apids_differ [] = true
apids_differ (word ∷ words) = not (has_apid (apid_of word) words) && apids_differ words

-- one or more routes
abbrev pub are_routes : List (List ℕ) → Bool
are_routes [] = false
are_routes (word ∷ words) = list_all is_route (word ∷ words) && apids_differ (word ∷ words)
