-- What a parser of whole files answers about its tokens.
use Rattle.std.specs.Prelude.{◌≡◌, ◌↔◌, ℕ, ◌-◌, List, length, Option, Some, None, Result, Ok, Err}
use Rattle.acn_lex.specs.Lexeme.{Lexeme}
use Rattle.acn_cursor.specs.declared.fault.ParseFault.{ParseFault}
use Rattle.acn_cursor.specs.declared.fault.ParseFault.TheVariants.{Syntax, TooDeep, LeftOut, NoMemory}
use Rattle.acn_cursor.specs.declared.stop.Stop.{Stop}
use Rattle.acn_cursor.specs.declared.stop.Stop.TheVariants as stop
use Rattle.acn_cursor.specs.Steps.{Parser, is_whole}
use Rattle.acn_cursor.specs.Screens.{first_left_out, first_too_deep}

-- the fault that is found before the grammar is asked: a left-out word, and else a level over MOST_LEVEL
abbrev pub screen_by : Option ℕ → Option ℕ → Option ParseFault
screen_by (Some n) deep = Some (LeftOut n)
screen_by None (Some n) = Some (TooDeep n)
screen_by None None = None

unfoldable pub screen : List Lexeme → List Lexeme → Option ParseFault
screen words ts = screen_by (first_left_out words ts) (first_too_deep ts)

-- that fault, if there is one
abbrev pub Screened : Option ParseFault → Result (Unit {0}) ParseFault → Type 0
Screened fault (Ok x) = fault ≡ None
Screened fault (Err e) = fault ≡ Some e

-- LeftOut comes exactly where one of the words stands, with the number of the first
abbrev pub IsLeftOut : {T : Type 0} → List Lexeme → List Lexeme → Result T ParseFault → Type 0
IsLeftOut words ts r = (n : ℕ) → (r ≡ Err (LeftOut n)) ↔ (first_left_out words ts ≡ Some n)

-- TooDeep comes exactly where none stands and a level is over MOST_LEVEL, with the number of the first such token
abbrev pub IsTooDeep : {T : Type 0} → List Lexeme → List Lexeme → Result T ParseFault → Type 0
IsTooDeep words ts r = (n : ℕ) → (r ≡ Err (TooDeep n)) ↔ ((first_left_out words ts ≡ None) × (first_too_deep ts ≡ Some n))

-- what is answered for tokens that a proper tree has: that tree, and never that there is none
abbrev pub IsOnly : {T : Type 0} → Result T ParseFault → T → Type 0
IsOnly (Ok x) t = x ≡ t
IsOnly (Err (Syntax _)) t = ⊥
IsOnly (Err (TooDeep _)) t = Unit {0}
IsOnly (Err (LeftOut _)) t = Unit {0}
IsOnly (Err NoMemory) t = Unit {0}

-- a tree that is answered is proper and has these tokens
abbrev pub IsFound : {T : Type 0} → (T → List Lexeme) → (T → Type 0) → List Lexeme → Result T ParseFault → Type 0
IsFound tokens_of IsProper ts (Ok t) = IsProper t × (ts ≡ tokens_of t)
IsFound tokens_of IsProper ts (Err e) = Unit {0}

-- why there is no tree of so many tokens, where a parser stopped
abbrev pub fault_of : ℕ → Stop → ParseFault
fault_of count (stop.Refused left) = Syntax (count - left)
fault_of count stop.NoMemory = NoMemory

abbrev pub in_file : {T : Type 0} → ℕ → Result T Stop → Result T ParseFault
in_file count (Ok t) = Ok t
in_file count (Err e) = Err (fault_of count e)

-- the number of the token where a parser that has to take all tokens stops, if it does
abbrev pub stopped : {A : Type 0} → ℕ → Result A ℕ → Option ℕ
stopped count (Ok a) = None
stopped count (Err left) = Some (count - left)

abbrev pub stops_at : {A : Type 0} → Parser A → List Lexeme → Option ℕ
stops_at parser ts = stopped (length ts) (is_whole (parser ts))

-- Syntax keeps this number
abbrev pub IsPlaced : {T : Type 0} → Option ℕ → Result T ParseFault → Type 0
IsPlaced place (Ok t) = Unit {0}
IsPlaced place (Err (Syntax n)) = place ≡ Some n
IsPlaced place (Err (TooDeep _)) = Unit {0}
IsPlaced place (Err (LeftOut _)) = Unit {0}
IsPlaced place (Err NoMemory) = Unit {0}
