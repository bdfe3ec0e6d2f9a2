-- The classes of bytes that tokens are made of.
use Rattle.std.specs.Prelude.{ℕ, Bool, false, not, ◌&&◌, ◌||◌, ◌==◌, nat_le, List, [], ◌∷◌, codes}
use Rattle.std.specs.List.{list_any}
use Rattle.std.specs.Char.{is_ascii_digit, is_ascii_alphanumeric}

-- bytes that have a name here
abbrev pub quote : ℕ
quote = 34

abbrev pub apostrophe : ℕ
apostrophe = 39

abbrev pub asterisk : ℕ
asterisk = 42

abbrev pub hyphen : ℕ
hyphen = 45

abbrev pub slash : ℕ
slash = 47

-- tab, line feed, vertical tab, form feed, carriage return and space (X.680, 12.1)
abbrev pub is_white : ℕ → Bool
is_white b = b == 32 || nat_le 9 b && nat_le b 13

-- line feed, vertical tab, form feed and carriage return, each of which ends a line (X.680, 12.1)
abbrev pub is_line_end : ℕ → Bool
is_line_end b = nat_le 10 b && nat_le b 13

-- the first byte is this one
abbrev pub starts_with : ℕ → List ℕ → Bool
starts_with c [] = false
starts_with c (b ∷ bs) = b == c

-- the first byte is a letter or a digit
abbrev pub starts_alnum : List ℕ → Bool
starts_alnum [] = false
starts_alnum (b ∷ bs) = is_ascii_alphanumeric b

-- a byte of a word behind its first letter: a letter or digit, or a hyphen before one (X.680, 12.2 and 12.3)
abbrev pub continues : ℕ → List ℕ → Bool
continues b bs = is_ascii_alphanumeric b || b == 45 && starts_alnum bs

-- 0 to 9, A to F, a to f: X.680, 12.12, has the upper-case letters alone, and the others are this profile's own
abbrev pub is_hex : ℕ → Bool
is_hex b = is_ascii_digit b || nat_le 65 b && nat_le b 70 || nat_le 97 b && nat_le b 102

-- between the apostrophes of a hexadecimal literal (X.680, 12.12)
abbrev pub is_hex_or_white : ℕ → Bool
is_hex_or_white b = is_hex b || is_white b

-- between the apostrophes of a bits literal (X.680, 12.10)
abbrev pub is_bit_or_white : ℕ → Bool
is_bit_or_white b = b == 48 || b == 49 || is_white b

-- a byte of a text that stands for itself: 32 to 126 but for the quotation mark (X.680, 12.14, and the range is this profile's own)
abbrev pub is_text_byte : ℕ → Bool
is_text_byte b = not (b == 34) && (nat_le 32 b && nat_le b 126)

-- the marks of one byte (X.680, 12.37, and the ampersand of X.681)
abbrev pub is_single : ℕ → Bool
is_single b = list_any (λ c. c == b) (codes ".,;:{}()[]<>|^-=@!&")
