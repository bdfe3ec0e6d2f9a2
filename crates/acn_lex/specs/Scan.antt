-- How long what stands at the front of some bytes is, for the contracts of the scanners. What tokens are is said in Lexes.
use Rattle.std.specs.Prelude.{ℕ, suc, ◌+◌, ◌-◌, Bool, true, false, ◌&&◌, ◌==◌, if◌then◌else◌, List, [], ◌∷◌, length, take, drop, Option, Some, None, is_some, ◌<◌, ◌≤◌}
use Rattle.std.specs.Char.{is_ascii_digit, is_ascii_alphabetic}
use Rattle.acn_lex.specs.declared.Kind.TheVariants.{Word, Number, Bits, Hex, Text, Mark}
use Rattle.acn_lex.specs.declared.scan.Step.{Step}
use Rattle.acn_lex.specs.declared.scan.Step.TheVariants as step
use Rattle.acn_lex.specs.Number.{number_in, is_unwritten}
use Rattle.acn_lex.specs.Bytes.{is_white, is_line_end, starts_with, continues, is_hex_or_white, is_bit_or_white, is_text_byte, is_single}

-- how many bytes continue a word
abbrev pub word_len : List ℕ → ℕ
word_len [] = 0
word_len (b ∷ bs) = if continues b bs then suc (word_len bs) else 0

-- how many bytes pass
abbrev pub run_len : (ℕ → Bool) → List ℕ → ℕ
run_len p [] = 0
run_len p (b ∷ bs) = if p b then suc (run_len p bs) else 0

-- from behind two hyphens to behind the next two, or behind the end of the line
abbrev pub comment_len : List ℕ → ℕ
comment_len [] = 0
comment_len (b ∷ bs) = if is_line_end b then 1 else (if b == 45 && starts_with 45 bs then 2 else suc (comment_len bs))

abbrev pub opens : ℕ → List ℕ → Bool
opens b bs = b == 47 && starts_with 42 bs

abbrev pub closes : ℕ → List ℕ → Bool
closes b bs = b == 42 && starts_with 47 bs

-- Where a comment that nests ends, if it does. At a place inside, as many more are open, and the first byte may be passed over.
abbrev pub block_end : Bool → ℕ → ℕ → List ℕ → Option ℕ
block_end skip depth at [] = None
block_end true depth at (b ∷ bs) = block_end false depth (at + 1) bs
block_end false depth at (b ∷ bs) =
    if opens b bs then block_end true (depth + 1) (at + 1) bs
    else (if closes b bs then (if depth == 0 then Some (at + 2) else block_end true (depth - 1) (at + 1) bs) else block_end false depth (at + 1) bs)

-- how long the longest mark in front is
abbrev pub mark_len : ℕ → List ℕ → ℕ
mark_len b bs =
    if b == 58 && starts_with 58 bs && starts_with 61 (drop 1 bs) then 3
    else (if b == 46 && starts_with 46 bs then (if starts_with 46 (drop 1 bs) then 3 else 2)
    else (if b == 61 && starts_with 61 bs then 2
    else (if is_single b then 1 else 0)))

-- What a literal in apostrophes is, with so many digits and white bytes in front, of which so many are bits or white, and the bytes behind them
abbrev pub ended_step : ℕ → ℕ → List ℕ → Step
ended_step run bits [] = step.Unclosed
ended_step run bits (b ∷ bs) =
    if b == 39 && starts_with 72 bs then step.Token Hex (run + 3)
    else (if b == 39 && starts_with 66 bs && bits == run then step.Token Bits (run + 3) else step.BadByte)

unfoldable pub digits_step : List ℕ → Step
digits_step bs = ended_step (run_len is_hex_or_white bs) (run_len is_bit_or_white bs) (drop (run_len is_hex_or_white bs) bs)

-- What a text is, at a place behind its opening quotation mark, where the first byte may be passed over
abbrev pub text_from : Bool → ℕ → List ℕ → Step
text_from skip at [] = step.Unclosed
text_from true at (b ∷ bs) = text_from false (at + 1) bs
text_from false at (b ∷ bs) =
    if is_text_byte b then text_from false (at + 1) bs
    else (if b == 34 then (if starts_with 34 bs then text_from true (at + 1) bs else step.Token Text (at + 2)) else step.BadByte)

unfoldable pub number_step : List ℕ → Step
number_step text = if is_unwritten text then step.BadByte else (if is_some (number_in text) then step.Token Number (length text) else step.TooWide)

abbrev pub mark_step : ℕ → Step
mark_step n = if n == 0 then step.BadByte else step.Token Mark n

abbrev pub block_step : Option ℕ → Step
block_step None = step.Unclosed
block_step (Some n) = step.Gap (n + 2)

unfoldable pub step_of : ℕ → List ℕ → Step
step_of b bs =
    if is_white b then step.Gap 1
    else (if b == 45 && starts_with 45 bs then step.Gap (comment_len (drop 1 bs) + 2)
    else (if opens b bs then block_step (block_end false 0 0 (drop 1 bs))
    else (if is_ascii_alphabetic b then step.Token Word (word_len bs + 1)
    else (if is_ascii_digit b then number_step (take (run_len is_ascii_digit bs + 1) (b ∷ bs))
    else (if b == 39 then digits_step bs
    else (if b == 34 then text_from false 0 bs
    else mark_step (mark_len b bs)))))))

-- what stands at a place
unfoldable pub step_at : List ℕ → Step
step_at [] = step.End
step_at (b ∷ bs) = step_of b bs

abbrev pub IsWithin : Step → ℕ → Type 0
IsWithin step.End n = Unit {0}
IsWithin (step.Gap k) n = (0 < k) × (k ≤ n)
IsWithin (step.Token kind k) n = (0 < k) × (k ≤ n)
IsWithin step.BadByte n = Unit {0}
IsWithin step.Unclosed n = Unit {0}
IsWithin step.TooWide n = Unit {0}
