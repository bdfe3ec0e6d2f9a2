-- The tokens of some bytes, by rules, and the faults of bytes that have none.
use Rattle.std.specs.Prelude.{◌≡◌, ℕ, zero, suc, ◌+◌, ◌-◌, ◌*◌, ◌<◌, ◌≤◌, ◌^◌, ◌==◌, Bool, true, false, ◌&&◌, List, [], ◌∷◌, ◌++◌, length, map, Result, Ok, Err, ◌⊎◌, codes}
use Rattle.std.specs.Char.{is_ascii_digit, is_ascii_alphabetic}
use Rattle.std.specs.List.{list_all}
use Rattle.acn_lex.specs.declared.Kind.{Kind}
use Rattle.acn_lex.specs.declared.Kind.TheVariants.{Word, Number, Bits, Hex, Text, Mark}
use Rattle.acn_lex.specs.declared.Tokens.{Tokens}
use Rattle.acn_lex.specs.declared.fault.LexFault.{LexFault}
use Rattle.acn_lex.specs.declared.fault.LexFault.TheVariants.{BadByte, Unclosed, TooManyTokens, TooWide, NoMemory}
use Rattle.acn_lex.specs.declared.lexing.TheConstants.{MOST_TOKENS}
use Rattle.acn_lex.specs.Number.{is_unwritten}
use Rattle.acn_lex.specs.Bytes.{is_white, is_line_end, starts_with, continues, is_hex_or_white, is_bit_or_white, is_text_byte, is_single, quote, apostrophe, asterisk, hyphen, slash}
use Rattle.acn_lex.specs.Lexeme.{Placed, placed}

-- letters, digits and single hyphens, each hyphen before a letter or digit (X.680, 12.2 and 12.3)
abbrev pub is_tail : List ℕ → Bool
is_tail [] = true
is_tail (b ∷ bs) = continues b bs && is_tail bs

-- a letter, then such bytes
abbrev pub is_word : List ℕ → Bool
is_word [] = false
is_word (b ∷ bs) = is_ascii_alphabetic b && is_tail bs

-- one digit or more (X.680, 12.8)
abbrev pub is_digits : List ℕ → Bool
is_digits [] = false
is_digits (b ∷ bs) = list_all is_ascii_digit (b ∷ bs)

-- What stands between the quotation marks of a text: one of its own is written twice (X.680, 12.14).
pub data IsTextBody : List ℕ → Type 0 where
  none : IsTextBody []
  pair : {bs : List ℕ} → IsTextBody bs → IsTextBody (quote ∷ quote ∷ bs)
  byte : {b : ℕ} {bs : List ℕ} → is_text_byte b ≡ true → IsTextBody bs → IsTextBody (b ∷ bs)

-- the marks (X.680, 12.20 to 12.22 and 12.37; the doubled equals sign is ACN's, and the ampersand X.681's)
pub data IsMark : List ℕ → Type 0 where
  single : {b : ℕ} → is_single b ≡ true → IsMark (b ∷ [])
  assignment : IsMark (codes "::=")
  range : IsMark (codes "..")
  ellipsis : IsMark (codes "...")
  equality : IsMark (codes "==")

-- What form the tokens of a kind have (X.680, 12.2, 12.3, 12.8, 12.10, 12.12, 12.14). A number may be any digits here: what else it must be is said of tokens.
abbrev pub IsForm : Kind → List ℕ → Type 0
IsForm Word text = is_word text ≡ true
IsForm Number text = is_digits text ≡ true
IsForm Bits text = (body : List ℕ) × (list_all is_bit_or_white body ≡ true) × (text ≡ apostrophe ∷ (body ++ codes "'B"))
IsForm Hex text = (body : List ℕ) × (list_all is_hex_or_white body ≡ true) × (text ≡ apostrophe ∷ (body ++ codes "'H"))
IsForm Text text = (body : List ℕ) × IsTextBody body × (text ≡ quote ∷ (body ++ quote ∷ []))
IsForm Mark text = IsMark text

-- two hyphens stand in front
abbrev pub starts_line_comment : List ℕ → Bool
starts_line_comment [] = false
starts_line_comment (b ∷ bs) = b == hyphen && starts_with hyphen bs

-- the number that digits spell, behind those of n
abbrev pub spelled : ℕ → List ℕ → ℕ
spelled n [] = n
spelled n (c ∷ cs) = spelled (10 * n + (c - 48)) cs

-- A token of this kind and text stands before the rest. No front of these bytes that has the form of a token is longer, by this profile's rule.
pub record IsToken (kind : Kind) (text rest : List ℕ) : Type 0 where
  pub form : IsForm kind text
  pub longest : (other : Kind) (front back : List ℕ) → front ++ back ≡ text ++ rest → IsForm other front → length front ≤ length text
  -- no token begins where a comment does
  pub apart : starts_line_comment (text ++ rest) ≡ false
  -- a number has no zero before other digits (X.680, 12.8), and is below 2 ^ 64 in this profile
  pub written : kind ≡ Number → is_unwritten text ≡ false
  pub small : kind ≡ Number → spelled 0 text < 2 ^ 64
  -- a text ends at a quotation mark that no other follows
  pub closed : kind ≡ Text → starts_with quote rest ≡ false

-- From behind two hyphens to the end of that comment: the next line end, the next two hyphens, or the end of the file (X.680, 12.6).
pub data IsLine : List ℕ → List ℕ → Type 0 where
  at_line_end : {b : ℕ} {rest : List ℕ} → is_line_end b ≡ true → IsLine (b ∷ []) rest
  at_hyphens : {rest : List ℕ} → IsLine (codes "--") rest
  at_end : IsLine [] []
  line_goes_on : {b : ℕ} {bs rest : List ℕ} → is_line_end b ≡ false → starts_line_comment (b ∷ bs) ≡ false → IsLine bs rest → IsLine (b ∷ bs) rest

-- a slash and an asterisk stand in front
abbrev pub starts_block : List ℕ → Bool
starts_block [] = false
starts_block (b ∷ bs) = b == slash && starts_with asterisk bs

-- an asterisk and a slash stand in front
abbrev pub ends_block : List ℕ → Bool
ends_block [] = false
ends_block (b ∷ bs) = b == asterisk && starts_with slash bs

-- From inside a comment between slashes to its end, where this many comments inside it are open: they nest (X.680, 12.6).
pub data IsBlock : ℕ → List ℕ → Type 0 where
  ends : IsBlock zero (codes "*/")
  closes : {depth : ℕ} {bs : List ℕ} → IsBlock depth bs → IsBlock (suc depth) (asterisk ∷ slash ∷ bs)
  opens : {depth : ℕ} {bs : List ℕ} → IsBlock (suc depth) bs → IsBlock depth (slash ∷ asterisk ∷ bs)
  block_goes_on : {depth b : ℕ} {bs : List ℕ} → starts_block (b ∷ bs) ≡ false → ends_block (b ∷ bs) ≡ false → IsBlock depth bs → IsBlock depth (b ∷ bs)

-- a byte of white space, or a whole comment, before the rest (X.680, 12.1 and 12.6)
pub data IsGap : List ℕ → List ℕ → Type 0 where
  white : {b : ℕ} {rest : List ℕ} → is_white b ≡ true → IsGap (b ∷ []) rest
  line : {bs rest : List ℕ} → IsLine bs rest → IsGap (hyphen ∷ hyphen ∷ bs) rest
  block : {bs rest : List ℕ} → IsBlock zero bs → IsGap (slash ∷ asterisk ∷ bs) rest

-- From the first place the bytes are white space, comments and tokens in turn, up to the second place and the bytes that are left there.
pub data Front : ℕ → List ℕ → List Placed → ℕ → List ℕ → Type 0 where
  here : {at : ℕ} {bytes : List ℕ} → Front at bytes [] at bytes
  gap : {at to : ℕ} {left : List ℕ} {ts : List Placed} (piece rest : List ℕ) → IsGap piece rest → Front (at + length piece) rest ts to left → Front at (piece ++ rest) ts to left
  token : {at to : ℕ} {left : List ℕ} {ts : List Placed} (kind : Kind) (text rest : List ℕ) → IsToken kind text rest → Front (at + length text) rest ts to left
      → Front at (text ++ rest) (record { kind = kind; at = at; text = text } ∷ ts) to left

-- The bytes, of which the first stands at a place, are white space, comments and these tokens in turn, to their end.
abbrev pub Lexes : ℕ → List ℕ → List Placed → Type 0
Lexes at bytes ts = (to : ℕ) × Front at bytes ts to []

-- A comment between slashes or a literal begins here that has no end: of digits and white space, or of the body of a text, nothing else follows.
pub data IsUnclosed : List ℕ → Type 0 where
  comment : {rest : List ℕ} → ((front back : List ℕ) → front ++ back ≡ rest → IsBlock zero front → ⊥) → IsUnclosed (slash ∷ asterisk ∷ rest)
  digits : {body : List ℕ} → list_all is_hex_or_white body ≡ true → IsUnclosed (apostrophe ∷ body)
  text : {body : List ℕ} → IsTextBody body → IsUnclosed (quote ∷ body)

-- the first byte is a digit
abbrev pub starts_digit : List ℕ → Bool
starts_digit [] = false
starts_digit (b ∷ bs) = is_ascii_digit b

-- these digits, which no further one follows, spell a number of 2 ^ 64 or more
pub record IsWide (text rest : List ℕ) : Type 0 where
  pub digits : is_digits text ≡ true
  pub whole : starts_digit rest ≡ false
  pub written : is_unwritten text ≡ false
  pub wide : 2 ^ 64 ≤ spelled 0 text

-- such a number begins here
abbrev pub IsTooWide : List ℕ → Type 0
IsTooWide bytes = (text rest : List ℕ) × (text ++ rest ≡ bytes) × IsWide text rest

-- Some byte stands here, and no white space, comment or token begins with it, nor anything that has no end or is too wide.
pub record IsBad (bytes : List ℕ) : Type 0 where
  pub more : 0 < length bytes
  pub no_gap : (piece rest : List ℕ) → piece ++ rest ≡ bytes → IsGap piece rest → ⊥
  pub no_token : (kind : Kind) (text rest : List ℕ) → text ++ rest ≡ bytes → IsToken kind text rest → ⊥
  pub ended : IsUnclosed bytes → ⊥
  pub small : IsTooWide bytes → ⊥

-- From a place on, the bytes are white space, comments and tokens up to this fault, with no more tokens before it than there may be.
-- A token too many is one that stands behind as many as there may be.
abbrev pub FaultsFrom : ℕ → ℕ → List ℕ → LexFault → Type 0
FaultsFrom most at bytes (BadByte p) = (ts : List Placed) × (left : List ℕ) × Front at bytes ts p left × (length ts ≤ most) × IsBad left
FaultsFrom most at bytes (Unclosed p) = (ts : List Placed) × (left : List ℕ) × Front at bytes ts p left × (length ts ≤ most) × IsUnclosed left
FaultsFrom most at bytes (TooWide p) = (ts : List Placed) × (left : List ℕ) × Front at bytes ts p left × (length ts ≤ most) × IsTooWide left
FaultsFrom most at bytes (TooManyTokens p) = (ts : List Placed) × (kind : Kind) × (text rest : List ℕ) × Front at bytes ts p (text ++ rest) × (length ts ≡ most) × IsToken kind text rest
FaultsFrom most at bytes NoMemory = ⊥

-- The first fault of a file, which may have MOST_TOKENS tokens in this profile. Want of memory is no fault of the bytes.
abbrev pub Faults : List ℕ → LexFault → Type 0
Faults bytes fault = FaultsFrom MOST_TOKENS 0 bytes fault

-- the answer is these tokens, unless memory ran out
abbrev pub AnswersTokens : List Placed → Result Tokens LexFault → Type 0
AnswersTokens ts (Ok us) = map placed us.list ≡ ts
AnswersTokens ts (Err e) = e ≡ NoMemory

-- the answer is this fault, unless memory ran out
abbrev pub AnswersFault : LexFault → Result Tokens LexFault → Type 0
AnswersFault fault (Ok us) = ⊥
AnswersFault fault (Err e) = (e ≡ fault) ⊎ (e ≡ NoMemory)
