-- TYPE: the names of a module and of a type, with a full stop between them. (X.680, 12.2 and 12.5; the form of TYPE is this program's own.)
use Rattle.std.specs.Prelude.{ℕ, Bool, true, false, not, ◌&&◌, ◌||◌, ◌==◌, ◌+◌, List, [], ◌∷◌, take, drop, if◌then◌else◌}
use Rattle.std.specs.Char.{is_ascii_uppercase, is_ascii_alphanumeric}
use Rattle.acn_lex.specs.Words.{is_reserved}

abbrev pub starts_alphanumeric : List ℕ → Bool
starts_alphanumeric [] = false
starts_alphanumeric (b ∷ bs) = is_ascii_alphanumeric b

-- a letter or digit, or a hyphen before one
abbrev pub goes_on : ℕ → List ℕ → Bool
goes_on b bs = is_ascii_alphanumeric b || b == 45 && starts_alphanumeric bs

-- letters, digits and single hyphens, none of them last
abbrev pub are_word_bytes : List ℕ → Bool
are_word_bytes [] = true
are_word_bytes (b ∷ bs) = goes_on b bs && are_word_bytes bs

abbrev pub starts_upper : List ℕ → Bool
starts_upper [] = false
starts_upper (b ∷ bs) = is_ascii_uppercase b

-- a word that begins with an upper-case letter and isn't reserved
abbrev pub is_reference : List ℕ → Bool
is_reference bs = starts_upper bs && are_word_bytes bs && not (is_reserved bs)

-- the place of the first full stop, or the end
abbrev pub stop_at : List ℕ → ℕ
stop_at [] = 0
stop_at (b ∷ bs) = if b == 46 then 0 else stop_at bs + 1

pub record TypeName : Type 0 where
  pub module_name : List ℕ
  pub name : List ℕ

-- what stands before and behind the first full stop
abbrev pub named : List ℕ → TypeName
named bs = record { module_name = take (stop_at bs) bs; name = drop (stop_at bs + 1) bs }

abbrev pub is_type : List ℕ → Bool
is_type bs = is_reference (named bs).module_name && is_reference (named bs).name
