-- What is counted of a run, and the line that tells it. (This program's own.)
use Rattle.std.specs.Prelude.{ℕ, List, [], ◌∷◌, ◌+◌, ◌/◌, length, codes, min}
use Rattle.std.specs.Fmt.{decimal}
use Rattle.std.specs.List.{concat}
use Rattle.memchr.specs.Find.{is_byte, places}
use Rattle.acn_progress.specs.declared.done.Done.{Done}
use Rattle.acn_progress.specs.declared.way.Way.{Way}
use Rattle.acn_progress.specs.declared.way.Way.TheVariants.{Encoding, Decoding, Explaining, Working}

-- how many lines end in these bytes
abbrev pub line_ends : List ℕ → ℕ
line_ends bytes = length (places (is_byte 10) bytes)

-- a count of 64 bits and so many more; it stands still at its greatest number
abbrev pub more : ℕ → ℕ → ℕ
more count n = min (count + n) 18446744073709551615

-- what is done when these bytes were read: packets where they become lines, else lines
abbrev pub read : Way → Done → List ℕ → Done
read Encoding done bytes = record { lines = more done.lines (line_ends bytes); octets = done.octets }
read Decoding done bytes = record { lines = done.lines; octets = more done.octets (length bytes) }
read Explaining done bytes = record { lines = done.lines; octets = more done.octets (length bytes) }
read Working done bytes = done

-- what is done when these bytes were written
abbrev pub wrote : Way → Done → List ℕ → Done
wrote Encoding done bytes = record { lines = done.lines; octets = more done.octets (length bytes) }
wrote Decoding done bytes = record { lines = more done.lines (line_ends bytes); octets = done.octets }
wrote Explaining done bytes = record { lines = more done.lines (line_ends bytes); octets = done.octets }
wrote Working done bytes = done

-- what is done when so many values were made, of which so many bits were written
abbrev pub made : (values bits : ℕ) → Done
made values bits = record { lines = values; octets = bits / 8 }

abbrev pub lines_word : Way → List ℕ
lines_word Encoding = codes " lines read, "
lines_word Decoding = codes " packets, "
lines_word Explaining = codes " lines written, "
lines_word Working = codes " values made, "

abbrev pub octets_word : Way → List ℕ
octets_word Encoding = codes " octets written"
octets_word Decoding = codes " octets read"
octets_word Explaining = codes " octets read"
octets_word Working = codes " octets packed"

-- the line that tells what is done, without an end
abbrev pub done_line : Way → Done → List ℕ
done_line way done = concat (codes "acn: " ∷ decimal done.lines ∷ lines_word way ∷ decimal done.octets ∷ octets_word way ∷ [])
